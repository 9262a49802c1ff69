-- The printouts of five journals, three by their transactions and two byte by byte, and of an account (manual 9.4).
use Rattle.std.specs.Prelude.{ℕ, true, false, List, [], ◌∷◌, ◌++◌, ◌≡◌, replicate}
use Rattle.prelude.specs.Ascii.{ascii}
use Rattle.printout.specs.Printout.{printout}
use Rattle.record.specs.Transaction.{Transaction, unchecked}
use Rattle.state.specs.declared.Account.{Account}
use Rattle.state.specs.Account.{besides, account_of}
use Rattle.state.specs.Sound.{account_sound}
use Rattle.translator.specs.Properties.{other_code}
use Rattle.journal.specs.Format.{header, journal_of, bad, good, parsed}
use Rattle.journal.specs.Journal.{output}

-- a command with so many bytes of data, all zero, while the link is up (manual 1.1)
abbrev pub sends : ℕ → ℕ → Transaction
sends command size = unchecked command (replicate size 0) true

-- the manual's six records under maximum 32 (manual 9.4)
abbrev pub transactions : List Transaction
transactions =
    sends 0xC4 20 ∷ sends 0x84 32 ∷ sends 0x84 10 ∷ sends 0x44 5 ∷ sends 0x04 3 ∷ unchecked 0xCA (0x41 ∷ []) true ∷ []

-- what the six print (manual 9.4)
abbrev pub six_printed : List ℕ
six_printed =
    ascii "fate packets fragments bytes\nsent 1 1 20\nsuperseded 1 1 32\nflushed 0 0 0\nbroken 0 0 0\nover 0 0 0\nshort 1 2 15\nlinkdown 0 0 0\naborted 0 1 3\nbadlength 0 0 0\nbadcheck 0 0 0\nopen 0 0 0\ntaken 1\nrefused 0\ntotal 6\n"

-- in version 1 (manual 9.4)
abbrev pub Example : Type 0
Example = output (journal_of (header 32 false) transactions) ≡ six_printed

-- the six from one address, each with its code (manual 9.4, 10.2)
abbrev pub with_codes : List Transaction
with_codes =
    other_code 0x92 0xC6 (sends 0xC4 20) ∷ other_code 0x92 0xF3 (sends 0x84 32) ∷ other_code 0x92 0x5E (sends 0x84 10)
    ∷ other_code 0x92 0x13 (sends 0x44 5) ∷ other_code 0x92 0x95 (sends 0x04 3) ∷ other_code 0x92 0xA5 (unchecked 0xCA (0x41 ∷ []) true) ∷ []

-- and in version 2 (manual 9.4)
abbrev pub ExampleWithCodes : Type 0
ExampleWithCodes = output (journal_of (header 32 true) with_codes) ≡ six_printed

-- a header for maximum 18; a packet of 17 bytes with the link up, and one of 18 with the link down; a Receive Enable and an unknown command; a fragment that leaves a packet open (manual 9.1, 9.2)
abbrev pub journal_bytes : List ℕ
journal_bytes =
    0x54 ∷ 0x43 ∷ 0x4F ∷ 1 ∷ 0 ∷ 18
    ∷ 0xC4 ∷ 1 ∷ 17 ∷ 1 ∷ 2 ∷ 3 ∷ 4 ∷ 5 ∷ 6 ∷ 7 ∷ 8 ∷ 9 ∷ 10 ∷ 11 ∷ 12 ∷ 13 ∷ 14 ∷ 15 ∷ 16 ∷ 17
    ∷ 0xC4 ∷ 0 ∷ 18 ∷ 1 ∷ 2 ∷ 3 ∷ 4 ∷ 5 ∷ 6 ∷ 7 ∷ 8 ∷ 9 ∷ 10 ∷ 11 ∷ 12 ∷ 13 ∷ 14 ∷ 15 ∷ 16 ∷ 17 ∷ 18
    ∷ 0xCA ∷ 0 ∷ 1 ∷ 0x41
    ∷ 0x00 ∷ 1 ∷ 0
    ∷ 0x84 ∷ 0 ∷ 2 ∷ 19 ∷ 20 ∷ []

-- what it prints (manual 9.4)
abbrev pub ByteByByte : Type 0
ByteByByte =
    output journal_bytes
    ≡ ascii "fate packets fragments bytes\nsent 1 1 17\nsuperseded 0 0 0\nflushed 0 0 0\nbroken 0 0 0\nover 0 0 0\nshort 0 0 0\nlinkdown 1 1 18\naborted 0 0 0\nbadlength 0 0 0\nbadcheck 0 0 0\nopen 1 1 2\ntaken 1\nrefused 1\ntotal 5\n"

-- the same with one byte more is bad, and so is the header alone without its last byte (manual 9.3)
abbrev pub CutIsBad : Type 0
CutIsBad = (output (journal_bytes ++ (0xC4 ∷ [])) ≡ ascii "bad journal\n") × (output (0x54 ∷ 0x43 ∷ 0x4F ∷ 1 ∷ 0 ∷ []) ≡ ascii "bad journal\n")

-- a journal with codes, for maximum 240 and from one address: a First; a Middle whose byte of data came with one bit turned; a Last; a Receive Enable (manual 9.1, 9.2, 10.5)
abbrev pub checked_bytes : List ℕ
checked_bytes =
    0x54 ∷ 0x43 ∷ 0x4F ∷ 2 ∷ 0 ∷ 240
    ∷ 0x92 ∷ 0x84 ∷ 1 ∷ 2 ∷ 19 ∷ 20 ∷ 0xDA
    ∷ 0x92 ∷ 0x04 ∷ 1 ∷ 1 ∷ 20 ∷ 0xAF
    ∷ 0x92 ∷ 0x44 ∷ 1 ∷ 1 ∷ 22 ∷ 0x20
    ∷ 0x92 ∷ 0xCA ∷ 0 ∷ 1 ∷ 0x41 ∷ 0xA5 ∷ []

-- what it prints (manual 9.4)
abbrev pub Checked : Type 0
Checked =
    output checked_bytes
    ≡ ascii "fate packets fragments bytes\nsent 0 0 0\nsuperseded 0 0 0\nflushed 0 0 0\nbroken 1 1 2\nover 0 0 0\nshort 0 0 0\nlinkdown 0 0 0\naborted 0 1 1\nbadlength 0 0 0\nbadcheck 0 1 0\nopen 0 0 0\ntaken 1\nrefused 0\ntotal 4\n"

-- a header alone, by its version: 1 and 2 are good; 0, 3 and those with a high byte are not (manual 9.1, 9.3)
abbrev pub header_bytes : (low high : ℕ) → List ℕ
header_bytes low high = 0x54 ∷ 0x43 ∷ 0x4F ∷ low ∷ high ∷ 240 ∷ []

pub record Versions : Type 0 where
  pub one : parsed (header_bytes 1 0) ≡ good (header 240 false) []
  pub two : parsed (header_bytes 2 0) ≡ good (header 240 true) []
  pub zero_is_bad : parsed (header_bytes 0 0) ≡ bad
  pub three_is_bad : parsed (header_bytes 3 0) ≡ bad
  pub high_bytes_are_bad : (parsed (header_bytes 1 1) ≡ bad) × (parsed (header_bytes 2 1) ≡ bad) × (parsed (header_bytes 0 1) ≡ bad) × (parsed (header_bytes 0 2) ≡ bad)

-- a journal for maximum 240 that counts in every row but badcheck (manual 8.2)
abbrev pub of_every_row : List Transaction
of_every_row =
    -- sent; superseded by a packet that is sent
    sends 0xC4 20 ∷ sends 0x84 32 ∷ sends 0xC4 100
    -- flushed by an unknown command, and by a Receive Enable
    ∷ sends 0x84 10 ∷ sends 0x04 11 ∷ sends 0xC0 0
    ∷ sends 0x84 12 ∷ unchecked 0xCA (0x41 ∷ []) true
    -- broken, its Last aborted, and one fragment more of a bad length
    ∷ sends 0x84 5 ∷ sends 0x04 6 ∷ sends 0x04 7 ∷ sends 0x04 8 ∷ sends 0x04 0 ∷ sends 0x44 13 ∷ sends 0x44 241
    -- over, by one byte
    ∷ sends 0x84 240 ∷ replicate 5 (sends 0x04 240)
    ++ (sends 0x44 97
    -- short; link down; an unknown command that flushes nothing
    ∷ sends 0xC4 16 ∷ unchecked 0xC4 (replicate 17 0) false ∷ sends 0x00 3
    -- left open, of two fragments
    ∷ sends 0x84 50 ∷ sends 0x04 60 ∷ [])

-- what it prints (manual 9.4)
abbrev pub EveryRow : Type 0
EveryRow =
    output (journal_of (header 240 false) of_every_row)
    ≡ ascii "fate packets fragments bytes\nsent 2 2 120\nsuperseded 1 1 32\nflushed 2 3 33\nbroken 1 4 26\nover 1 7 1537\nshort 1 1 16\nlinkdown 1 1 17\naborted 0 1 13\nbadlength 0 2 0\nbadcheck 0 0 0\nopen 1 2 110\ntaken 1\nrefused 2\ntotal 27\n"

-- a sound account whose numbers are all different but for those that have to be 0 (manual 8.2, 8.7)
abbrev pub of_different_numbers : Account
of_different_numbers =
    account_of
    (1 ∷ 11 ∷ 21
    ∷ 2 ∷ 12 ∷ 22
    ∷ 3 ∷ 13 ∷ 23
    ∷ 4 ∷ 14 ∷ 24
    ∷ 5 ∷ 15 ∷ 25
    ∷ 6 ∷ 16 ∷ 26
    ∷ 7 ∷ 17 ∷ 27
    ∷ 0 ∷ 18 ∷ 28
    ∷ 0 ∷ 19 ∷ 0
    ∷ 0 ∷ 20 ∷ 0 ∷ [])
    (besides 8 30 9 10 182)

-- each is printed in its own place (manual 9.4)
abbrev pub DifferentNumbers : Type 0
DifferentNumbers =
    (account_sound of_different_numbers ≡ true)
    × (printout of_different_numbers
    ≡ ascii "fate packets fragments bytes\nsent 1 11 21\nsuperseded 2 12 22\nflushed 3 13 23\nbroken 4 14 24\nover 5 15 25\nshort 6 16 26\nlinkdown 7 17 27\naborted 0 18 28\nbadlength 0 19 0\nbadcheck 0 20 0\nopen 1 8 30\ntaken 9\nrefused 10\ntotal 182\n")
