use Rattle.std.proofs.Common.{ℕ, get_or, sym, ap, rules}
use Rattle.std.proofs.Math.Nat.{mod-eq_of_lt}
use Rattle.std.proofs.lemmas.Nat.{xor_of_8}
use Rattle.pec.specs.Table.{table, table_step}
use Rattle.pec.proofs.table_step.Goals as goal

pub returns : goal.returns
unfolding table_step
returns c =
    rw c.from.ensures
    (ap (λ (place : ℕ). get_or table place 0) (sym (mod-eq_of_lt (xor_of_8 c.args.crc c.args.byte c.requires (search rules)))))
