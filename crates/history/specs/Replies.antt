-- What a transaction is answered, with its sent length, from what stands before it in the list (manual 2.1, 2.2).
use Rattle.std.specs.Prelude.{ℕ, Bool, true, false, List, [], ◌∷◌, ◌++◌, eqb}
use Rattle.prelude.specs.Choice.{when◌then◌else◌}
use Rattle.record.specs.Transaction.{Transaction}
use Rattle.outcome.specs.declared.Reply.{Reply}
use Rattle.history.specs.Packets.{total_of, sent_length}
use Rattle.history.specs.Reading.{Entry, Setup}
use Rattle.history.specs.Settings.{is_mac_kept}
use Rattle.history.specs.Runs.{Role, begins, goes_on, ends, passes, role_of, roles_back, so_far, last_answer}

-- an answer, with a sent length where a packet was sent (manual 2.1, 4.3)
abbrev pub answered : (answer : ℕ) → Reply
answered answer = record { answer = answer; sent = 0 }

unfoldable pub last_reply : (link_up : Bool) (total : ℕ) → Reply
last_reply link_up total = record { answer = last_answer link_up total; sent = when eqb (last_answer link_up total) 1 then sent_length total else 0 }

-- a fragment was taken in, and was Last or not (manual 3.1, 3.6)
abbrev pub taken_reply : (last link_up : Bool) → List (List ℕ) → Reply
taken_reply true link_up pieces = last_reply link_up (total_of pieces)
taken_reply false link_up pieces = answered 0

-- by the role, and the fragments so far (manual 3.3)
abbrev pub reply_on : Role → List (List ℕ) → Reply
reply_on (begins last piece link_up) pieces = taken_reply last link_up (piece ∷ [])
reply_on (goes_on last piece link_up) [] = answered 2
reply_on (goes_on last piece link_up) (first ∷ pieces) = taken_reply last link_up ((first ∷ pieces) ++ piece ∷ [])
reply_on (ends fate answer) pieces = answered answer
reply_on (passes answer) pieces = answered answer

-- what stands earlier is given newest first (manual 2.2)
abbrev pub reply_at : Setup → (earlier : List Entry) → Transaction → Reply
reply_at setup earlier t = reply_on (role_of setup (is_mac_kept setup earlier) t) (so_far (roles_back setup earlier))
