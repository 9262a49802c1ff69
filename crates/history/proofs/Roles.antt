-- The role that the history reads, command by command, and its answer.
-- Assumes nothing.
use Prim.Native.Nat.{ℕ}
use mathlib.Core.Bool.{Bool, true, false}
use mathlib.Core.List.{List, [], ◌∷◌, ◌++◌, reverse_aux}
use mathlib.Core.Path.{◌≡◌, refl, ap}
use native.Mathlib.Omega.{arith}
use lib.Dec.{eqb}
use lib.ListN.{length}
use borrow.Author.Tests.{eqb-true, eqb-false, ne_eqb}
use Rattle.prelude.specs.Choice.{when◌then◌else◌}
use Rattle.prelude.proofs.Tests.{if-cases}
use Rattle.record.specs.Transaction.{Transaction}
use Rattle.translator.specs.Command.{has_both_flags}
use Rattle.history.specs.Lines.{line_of, flushed, is_counted}
use Rattle.history.specs.Packets.{total_of}
use Rattle.history.specs.Reading.{Entry, counted, total, Setup, is_fragment}
use Rattle.history.specs.Settings.{enable_answer, is_mac_kept}
use Rattle.history.specs.Runs.{Role, begins, goes_on, ends, passes, command_answer, command_role, role_of, roles_back, so_far, last_answer}
use Rattle.history.specs.Replies.{last_reply, reply_on}
use Rattle.history.specs.Partition.{line_from, line_at}
use Rattle.history.proofs.Cutting.{Alone, of-3, of-7, of-8, of-9, of-10, of-11, of-17, IsRole, AreRoles}

-- a transaction with another command
abbrev pub with_command : ℕ → Transaction → Transaction
with_command command t = record { address = t.address; command = command; bytes = t.bytes; code = t.code; link_up = t.link_up }

-- each of the commands, or another
pub by-command : (P : ℕ → Type 0) → P 0x84 → P 0x04 → P 0x44 → P 0xC4 → P 0xCA
    → ((c : ℕ) → (c ≡ 0x84 → ⊥) → (c ≡ 0x04 → ⊥) → (c ≡ 0x44 → ⊥) → (c ≡ 0xC4 → ⊥) → (c ≡ 0xCA → ⊥) → P c) → (c : ℕ) → P c
by-command P p₁ p₂ p₃ p₄ p₅ other c =
    by-test 0x84 p₁ (λ n₁. by-test 0x04 p₂ (λ n₂. by-test 0x44 p₃ (λ n₃. by-test 0xC4 p₄ (λ n₄. by-test 0xCA p₅ (λ n₅. other c n₁ n₂ n₃ n₄ n₅)))))
  where
    by_equal : (n : ℕ) → P n → ((c ≡ n → ⊥) → P c) → (t : Bool) → eqb c n ≡ t → P c
    by_equal n p q true e = rw (eqb-true c n e) p
    by_equal n p q false e = q (eqb-false c n e)

    by-test : (n : ℕ) → P n → ((c ≡ n → ⊥) → P c) → P c
    by-test n p q = by_equal n p q (eqb c n) refl

-- a command that is none of those
pub unknown-role : (setup : Setup) (mac_kept : Bool) (c : ℕ) (t : Transaction)
    → (c ≡ 0x84 → ⊥) → (c ≡ 0x04 → ⊥) → (c ≡ 0x44 → ⊥) → (c ≡ 0xC4 → ⊥) → (c ≡ 0xCA → ⊥)
    → command_role setup mac_kept (with_command c t) ≡ (when has_both_flags c then ends flushed 7 else passes 7)
unfolding command_role is_fragment command_answer has_both_flags when◌then◌else◌
unknown-role setup mac_kept c t n₁ n₂ n₃ n₄ n₅ = rw (ne_eqb _ _ n₁, ne_eqb _ _ n₂, ne_eqb _ _ n₃, ne_eqb _ _ n₄, ne_eqb _ _ n₅)

-- the answers of what stands alone
ruleset stands = (of-3, of-7, of-8, of-9, of-10, of-11, of-17)

command-stands : (mac_kept : Bool) (t : Transaction) → Alone (command_answer mac_kept t)
unfolding command_answer enable_answer
command-stands mac_kept t =
    if-cases Alone _ _ _
    (λ _. if-cases Alone _ _ _ (λ _. search stands) (λ _. if-cases Alone _ _ _ (λ _. search stands) (λ _. if-cases Alone _ _ _ (λ _. search stands) (λ _. search stands))))
    (λ _. search stands)

is-role : (setup : Setup) (mac_kept : Bool) (t : Transaction) → IsRole (role_of setup mac_kept t)
unfolding role_of command_role
is-role setup mac_kept t =
    if-cases IsRole _ _ _ (λ _. search stands)
    (λ _. if-cases IsRole _ _ _
    (λ _. if-cases IsRole _ _ _ (λ _. search stands) (λ _. if-cases IsRole _ _ _ (λ _. search stands) (λ _. search stands)))
    (λ _. if-cases IsRole _ _ _ (λ _. command-stands mac_kept t) (λ _. command-stands mac_kept t)))

pub are-roles : (setup : Setup) (earlier : List Entry) → AreRoles (roles_back setup earlier)
are-roles setup [] = tt
are-roles setup (counted t ∷ earlier) = (is-role setup (is_mac_kept setup earlier) t, are-roles setup earlier)

pub are-reversed : (list more : List Role) → AreRoles list → AreRoles more → AreRoles (reverse_aux list more)
are-reversed [] more i j = j
are-reversed (role ∷ list) more i j = are-reversed list (role ∷ more) i.1 (i.0, j)

pub roles-length : (setup : Setup) (earlier : List Entry) → length (roles_back setup earlier) ≡ total earlier
roles-length setup [] = refl
roles-length setup (counted t ∷ earlier) = omega (arith, roles-length setup earlier)

-- every answer of a role is counted, and the newest place stands in its line
last-counted : (link_up : Bool) (size : ℕ) → is_counted (last_answer link_up size) ≡ true
unfolding last_answer is_counted
last-counted link_up size =
    if-cases Is _ _ _ (λ _. refl) (λ _. if-cases Is _ _ _ (λ _. refl) (λ _. if-cases Is _ _ _ (λ _. refl) (λ _. refl)))
  where
    Is : ℕ → Type 0
    Is answer = is_counted answer ≡ true

pub alone-counted : (answer : ℕ) → Alone answer → is_counted answer ≡ true
unfolding is_counted
alone-counted _ of-3 = refl
alone-counted _ of-7 = refl
alone-counted _ of-8 = refl
alone-counted _ of-9 = refl
alone-counted _ of-10 = refl
alone-counted _ of-11 = refl
alone-counted _ of-17 = refl

reply-counted : (role : Role) (held : List (List ℕ)) → IsRole role → is_counted (reply_on role held).answer ≡ true
unfolding last_reply is_counted
reply-counted (begins true d k) held i = last-counted k (total_of (d ∷ []))
reply-counted (begins false d k) held i = refl
reply-counted (goes_on l d k) [] i = refl
reply-counted (goes_on true d k) (p ∷ ps) i = last-counted k (total_of ((p ∷ ps) ++ d ∷ []))
reply-counted (goes_on false d k) (p ∷ ps) i = refl
reply-counted (ends fate answer) held i = alone-counted answer i
reply-counted (passes answer) held i = alone-counted answer i

pub answer-counted : (setup : Setup) (earlier : List Entry) (t : Transaction)
    → is_counted (reply_on (role_of setup (is_mac_kept setup earlier) t) (so_far (roles_back setup earlier))).answer ≡ true
answer-counted setup earlier t = reply-counted (role_of setup (is_mac_kept setup earlier) t) (so_far (roles_back setup earlier)) (is-role setup (is_mac_kept setup earlier) t)

newest-line : (role : Role) (held : List (List ℕ)) (earlier : List Role) → so_far earlier ≡ held → line_at earlier role [] ≡ line_of (reply_on role held).answer
unfolding last_reply
newest-line (begins true d k) held earlier e = refl
newest-line (begins false d k) held earlier e = refl
newest-line (goes_on true d k) [] earlier e = ap (λ (h : List (List ℕ)). line_from h (goes_on true d k ∷ [])) e
newest-line (goes_on false d k) [] earlier e = ap (λ (h : List (List ℕ)). line_from h (goes_on false d k ∷ [])) e
newest-line (goes_on true d k) (p ∷ ps) earlier e = ap (λ (h : List (List ℕ)). line_from h (goes_on true d k ∷ [])) e
newest-line (goes_on false d k) (p ∷ ps) earlier e = ap (λ (h : List (List ℕ)). line_from h (goes_on false d k ∷ [])) e
newest-line (ends fate answer) held earlier e = refl
newest-line (passes answer) held earlier e = refl

pub line-of-answer : (earlier : List Role) (role : Role) → line_at earlier role [] ≡ line_of (reply_on role (so_far earlier)).answer
line-of-answer earlier role = newest-line role (so_far earlier) earlier refl
