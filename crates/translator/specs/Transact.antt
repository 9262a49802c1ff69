-- One transaction from end to end (manual 2.2, 2.3).
use Rattle.std.specs.Prelude.{ℕ, List, Result, Ok, Err, ⊤, eqb, ltb, length}
use Rattle.prelude.specs.After.{After, after}
use Rattle.prelude.specs.Choice.{when◌then◌else◌}
use Rattle.packet.specs.Store.{max_packet}
use Rattle.record.specs.Transaction.{Transaction}
use Rattle.settings.specs.Layout as settings_layout
use Rattle.state.specs.declared.State.{State}
use Rattle.state.specs.Account.{limit}
use Rattle.state.specs.Sound.{sound}
use Rattle.state.specs.State.{setup_in, with_account}
use Rattle.outcome.specs.declared.Outcome.{Outcome}
use Rattle.outcome.specs.declared.Outcome.TheVariants as outcome
use Rattle.translator.specs.declared.Transacted.{Transacted}
use Rattle.translator.specs.declared.judged.Judged.{Judged}
use Rattle.translator.specs.Counting.{counted}
use Rattle.translator.specs.Judge.{judge}

-- a state, and what was answered (manual 8.10)
abbrev pub with : State → Outcome → Transacted
with state o = record { state = state; outcome = o }

-- a transaction can be taken, or the outcome says why not (manual 2.1)
abbrev pub Readiness : Type 0
Readiness = Result ⊤ Outcome

-- 12 where a buffer is too short, 13 where the state or the settings are not sound (manual 2.1)
unfoldable pub readiness_of : State → List ℕ → List ℕ → Readiness
readiness_of s store settings =
    when ltb (length store) max_packet then Err outcome.NoRoom else
    when ltb (length settings) settings_layout.size then Err outcome.NoRoom else
    when sound s then
    (when settings_layout.sound settings then Ok tt else Err outcome.NotSound)
    else Err outcome.NotSound

-- what a transaction comes to on a state that can take it (manual 2.2)
abbrev pub judged_on : State → List ℕ → List ℕ → Transaction → After Judged
judged_on s store settings t =
    judge (setup_in s) s.account.beside.open_fragments s.account.beside.open_bytes t store settings

-- it is counted, and answered its outcome (manual 8.1)
abbrev pub applied : State → After Judged → After Transacted
applied s j = after (with (with_account s (counted j.result s.account)) j.result.outcome) j.store j.settings

-- 14 where the account is full, before the check and the command (manual 2.2, 8.6)
unfoldable pub by_readiness : Readiness → State → List ℕ → List ℕ → Transaction → After Transacted
by_readiness (Err o) s store settings t = after (with s o) store settings
by_readiness (Ok tt) s store settings t =
    when eqb s.account.beside.total limit then after (with s outcome.Full) store settings else
    applied s (judged_on s store settings t)

-- 12, 13 and 14, then the check, then by the command (manual 2.2)
unfoldable pub transacted : State → List ℕ → List ℕ → Transaction → After Transacted
transacted s store settings t = by_readiness (readiness_of s store settings) s store settings t
