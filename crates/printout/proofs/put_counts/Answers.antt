use Rattle.std.proofs.Common.{◌++◌, ◌∙◌, ap, List, [], ◌∷◌, ℕ}
use Prim.Native.String.{String}
use Rattle.prelude.specs.Ascii.{ascii}
use Rattle.printout.specs.Lines.{cut}
use Rattle.printout.specs.Printout.{count_lines, line_of}
use Rattle.printout.proofs.Lines.{then-put}
use Rattle.printout.proofs.put_counts.Goals as goal

abbrev line : String → ℕ → List ℕ
line name number = line_of (ascii name) (number ∷ [])

pub returns : goal.returns
unfolding count_lines
returns c =
    let b = c.args.beside in
    let text = c.args.text.now in
    let opened : ℕ → List ℕ = λ packets. line_of (ascii "open") (packets ∷ b.open_fragments ∷ b.open_bytes ∷ []) in
    let behind : List ℕ = line "taken" b.taken ++ (line "refused" b.refused ++ line "total" b.total) in
    then-put text (opened c.open_packets.result) behind c.put_line.ensures
    (then-put c.put_line.new.self (line "taken" b.taken) (line "refused" b.refused ++ line "total" b.total) c.put_line-2.ensures
    (then-put c.put_line-2.new.self (line "refused" b.refused) (line "total" b.total) c.put_line-3.ensures c.put_line-4.ensures))
    ∙ ap (λ (packets : ℕ). cut (text ++ (opened packets ++ behind))) c.open_packets.ensures
