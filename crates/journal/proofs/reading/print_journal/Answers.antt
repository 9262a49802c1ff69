use Rattle.std.proofs.Common.{◌≡◌, ◌-◌, ◌≤◌, List, ℕ, length, ap, sym, subst, ◌∙◌}
use Rattle.std.specs.Prelude.{Option}
use Rattle.state.specs.declared.Account.{Account}
use Rattle.journal.specs.Feeding.{Fed, fed, started, concluded}
use Rattle.journal.specs.declared.reading.Reading.{Reading}
use Rattle.journal.specs.Format.{parsed}
use Rattle.journal.specs.Journal.{account_in, outcome_printed}
use Rattle.journal.proofs.Whole.{whole-concluded, whole-printed, fed-within}
use Rattle.journal.proofs.reading.print_journal.Goals as goal

fed-is : (f : Fed) (r : Reading) (journal : List ℕ) → f ≡ fed r journal → r ≡ started → f ≡ fed started journal
fed-is f r journal e s = e ∙ ap (λ (r : Reading). fed r journal) s

pub overflow_sub-journal : goal.overflow_sub-journal
overflow_sub-journal c =
    let journal : List ℕ = c.args.journal.now in
    subst (λ (f : Fed). f.used ≤ length journal) (sym (fed-is _ _ journal c.feed-used.ensures c.start-reading.ensures)) (fed-within started journal)

pub returns : goal.returns
returns c =
    let journal : List ℕ = c.args.journal.now in
    let account : c.conclude.result ≡ account_in (parsed journal) =
    c.conclude.ensures
    ∙ (ap (λ (f : Fed). concluded f.reading (length journal - f.used)) (fed-is _ _ journal c.feed-used.ensures c.start-reading.ensures) ∙ whole-concluded journal) in
    c.print_outcome.ensures ∙ (ap (λ (a : Option Account). outcome_printed a c.args.out.now) account ∙ whole-printed journal c.args.out.now)
