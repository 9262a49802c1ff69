-- What is written is read as it was written, and what is read is what was written; a bad link byte is told; each part stands under its own name (manual 1.1, 9.2, 9.3).
use Rattle.std.specs.Prelude.{ℕ, ◌+◌, ◌<◌, Bool, true, false, List, All, Err, ◌≡◌, length, get_or, take}
use Rattle.record.specs.Records.{records_of, records_in, found_at}
use Rattle.record.specs.Transaction.{Transaction, attributes, transaction}
use Rattle.record.specs.declared.Stop.TheVariants as stop
use Rattle.record.specs.declared.transaction.Attributes.{Attributes}

-- without codes, no address and no code but zero can be written (manual 9.2)
abbrev pub Writable : (check : Bool) → Transaction → Type 0
Writable false t = (t.address ≡ 0) × (t.code ≡ 0)
Writable true t = Unit {0}

-- the records that a writer writes are all that is read of them, and the records that are read are the bytes that they use (manual 9.2)
pub record RoundTrip (check : Bool) : Type 0 where
  pub written_is_read : (transactions : List Transaction) → All (Writable check) transactions
      → records_in check (records_of check transactions) ≡ record { transactions = transactions; used = length (records_of check transactions); bad_link = false }
  pub read_was_written : (bytes : List ℕ) → records_of check (records_in check bytes).transactions ≡ take (records_in check bytes).used bytes
  pub read_is_writable : (bytes : List ℕ) → All (Writable check) (records_in check bytes).transactions

-- where the link byte of a record is, from its first byte on (manual 9.3)
abbrev pub link_at : (check : Bool) → ℕ
link_at false = 1
link_at true = 2

-- a link byte above 1 is bad as soon as it is there, whatever is behind it, and nothing else is (manual 9.3, 9.5)
pub record TellsBadLink (check : Bool) : Type 0 where
  pub as_soon_as_there : (bytes : List ℕ) (at : ℕ) → at + link_at check < length bytes → 1 < get_or bytes (at + link_at check) 0
      → found_at check bytes at ≡ Err stop.BadLink
  pub never_else : (bytes : List ℕ) (at : ℕ) → found_at check bytes at ≡ Err stop.BadLink
      → (at + link_at check < length bytes) × (1 < get_or bytes (at + link_at check) 0)

-- each part of a transaction is what it is made of by that name (manual 1.1)
pub record InItsPlace (a : Attributes) (bytes : List ℕ) : Type 0 where
  pub address_is : (transaction a bytes).address ≡ a.address
  pub command_is : (transaction a bytes).command ≡ a.command
  pub bytes_are : (transaction a bytes).bytes ≡ bytes
  pub code_is : (transaction a bytes).code ≡ a.code
  pub link_up_is : (transaction a bytes).link_up ≡ a.link_up
  pub attributes_are : attributes a.address a.command a.code a.link_up ≡ a
