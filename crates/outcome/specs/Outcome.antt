-- What a transaction is answered, in numbers (manual 2.1, 2.3).
use Rattle.std.specs.Prelude.{ℕ, Bool, not, leb}
use Rattle.prelude.specs.Choice.{◌and◌}
use Rattle.settings.specs.Enable.{refusal_number}
use Rattle.outcome.specs.declared.Cause.{Cause}
use Rattle.outcome.specs.declared.Cause.TheVariants.{Aborted, BadLength, Over, Short, LinkDown}
use Rattle.outcome.specs.declared.Outcome.{Outcome}
use Rattle.outcome.specs.declared.Outcome.TheVariants.{Joined, Sent, Discarded, Unknown, Refused, Taken, NoRoom, NotSound, Full, BadCheck}
use Rattle.outcome.specs.declared.Reply.{Reply}

-- the answer numbers (manual 2.1)
abbrev pub cause_number : Cause → ℕ
cause_number Aborted = 2
cause_number BadLength = 3
cause_number Over = 4
cause_number Short = 5
cause_number LinkDown = 6

abbrev pub number_of : Outcome → ℕ
number_of Joined = 0
number_of (Sent n) = 1
number_of (Discarded cause) = cause_number cause
number_of Unknown = 7
number_of (Refused refusal) = refusal_number refusal
number_of Taken = 11
number_of NoRoom = 12
number_of NotSound = 13
number_of Full = 14
number_of BadCheck = 17

-- the sent length, and 0 where no packet was sent (manual 2.4)
abbrev pub sent_length_of : Outcome → ℕ
sent_length_of Joined = 0
sent_length_of (Sent n) = n
sent_length_of (Discarded cause) = 0
sent_length_of Unknown = 0
sent_length_of (Refused refusal) = 0
sent_length_of Taken = 0
sent_length_of NoRoom = 0
sent_length_of NotSound = 0
sent_length_of Full = 0
sent_length_of BadCheck = 0

-- both of these (manual 2.1, 2.4)
abbrev pub reply_to : Outcome → Reply
reply_to o = record { answer = number_of o; sent = sent_length_of o }

-- whether a transaction with this answer is counted: all are but those answered 12, 13 and 14 (manual 2.3)
unfoldable pub is_counted : ℕ → Bool
is_counted answer = not (leb 12 answer and leb answer 14)
