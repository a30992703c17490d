-- Counted acknowledgements, one after the other.
use Rattle.std.proofs.Common.{◌≡◌, ℕ, ◌+◌, ◌<◌, ◌≤◌, Bool, true, false, ◌&&◌, nat_le, nat_eq, List, ◌∷◌, ◌++◌, max, length, drop, take, get_or, if◌then◌else◌, sym, ap, ap₂, ◌∙◌, arith, drop-cons, add-one, ◌||◌, slice_set}
use Rattle.std.proofs.lemmas.Bool.{cases_Bool, true≢false}
use Rattle.std.proofs.lemmas.Bool.Decides.{nat_tests}
use Rattle.std.proofs.lemmas.List.{take-map, drop-map, length-map, set_split}
use Rattle.std.specs.Ordering.{nat_cmp}
use Rattle.std.specs.FinSet.{FinSet, contains, insert}
use Rattle.volume_model.proofs.Sets.{contains-put}
use Rattle.volume_model.proofs.FormulaLaws.{sat_more}
use Rattle.volume_model.proofs.Points.{reaching-some, reaching-from}
use Rattle.volume_model.specs.Client as model
use Rattle.volume_model.specs.Common.{Formula, sat, best, reaching, with_count}
use Rattle.writer_core.specs.declared.count.Count.{Count}
use Rattle.writer_core.specs.Counts.{count_of, counts_of}
use Rattle.std.proofs.lemmas.Grind.{common_steps}

-- the count at hand, before the rest
pub rest_is : (counts : List Count) (i : ℕ) (c : Count) → i < length counts → c ≡ get_or counts i c → counts_of (drop i counts) ≡ count_of c ∷ counts_of (drop (i + 1) counts)
rest_is counts i c within is = ap counts_of (drop-cons counts i c within) ∙ ap₂ (λ x n. count_of x ∷ counts_of (drop n counts)) (sym is) (sym (add-one i))

joins : (x sender limit reached : ℕ) (a rest : Bool) → nat_le limit reached ≡ true → ((nat_eq x sender || a) || rest) ≡ (a || ((nat_eq sender x && nat_le limit reached) || rest))
joins x sender limit reached a rest h = grind (arith, nat_tests)

-- a count that reaches the limit puts its sender in
pub reaching-joins : (counts : List Count) (i limit : ℕ) (c : Count) (s : FinSet nat_cmp) (whole : ℕ → Bool) → i < length counts → c ≡ get_or counts i c → nat_le limit c.reached ≡ true
    → ((x : ℕ) → (contains s x || reaching (counts_of (drop i counts)) limit x) ≡ whole x)
    → (x : ℕ) → (contains (insert s c.sender) x || reaching (counts_of (drop (i + 1) counts)) limit x) ≡ whole x
reaching-joins counts i limit c s whole within is enough h x = grind (arith, common_steps, contains-put, joins, rest_is)

-- ---- a sender's count

-- the sender's count comes next
next-kept : (counts : List Count) (i sender : ℕ) (c : Count) → i < length counts → c ≡ get_or counts i c → c.sender ≡ sender
    → (reached : ℕ) → with_count sender reached (counts_of (drop i counts)) ≡ record { sender = c.sender; reached = max c.reached reached } ∷ counts_of (drop (i + 1) counts)
next-kept counts i sender c within is same reached = grind (arith, common_steps)

pub kept-here : (counts : List Count) (i sender : ℕ) (c : Count) → i < length counts → c ≡ get_or counts i c → c.sender ≡ sender
    → ((reached : ℕ) → with_count sender reached (counts_of counts) ≡ counts_of (take i counts) ++ with_count sender reached (counts_of (drop i counts)))
    → (reached : ℕ) → with_count sender reached (counts_of counts) ≡ slice_set (counts_of counts) i (record { sender = c.sender; reached = max c.reached reached })
kept-here counts i sender c within is same h reached = grind (arith, common_steps, next-kept, max, take-map, drop-map, add-one, set_split, length-map, (next-kept counts i sender c within is same reached), (max c.reached reached), (take-map count_of i counts), (drop-map count_of (i + 1) counts), (add-one i))

-- ---- the greatest number that counts satisfy

-- what satisfies nothing satisfies nothing above it either, where fewer members have reached as much
pub none-above : (write : Formula) (counts : List model.Count) (m n : ℕ) → m ≤ n → sat write (reaching counts m) ≡ false → sat write (reaching counts n) ≡ false
none-above write counts m n le none = grind (arith, common_steps, cases_Bool, sat_more, reaching-some, reaching-from, true≢false)

-- the count at hand is judged
pub best-goes-on : (write : Formula) (counts : List Count) (i b now : ℕ) (c : Count) (whole : ℕ) → i < length counts → c ≡ get_or counts i c
    → now ≡ max b (if sat write (reaching (counts_of counts) c.reached) then c.reached else 0)
    → max b (best write (counts_of counts) (counts_of (drop i counts))) ≡ whole
    → max now (best write (counts_of counts) (counts_of (drop (i + 1) counts))) ≡ whole
best-goes-on write counts i b now c whole within is judged h = grind (arith, common_steps)

-- it is the greatest so far
pub judged-greatest : (s : Bool) (b now reached : ℕ) → s ≡ true → b < reached → now ≡ reached → now ≡ max b (if s then reached else 0)
judged-greatest s b now reached e l n = rw e (let m : max b reached ≡ reached = omega arith in n ∙ sym m)

-- it satisfies nothing
pub judged-none : (s : Bool) (b now reached : ℕ) → s ≡ false → now ≡ b → now ≡ max b (if s then reached else 0)
judged-none s b now reached e n = rw e (let m : max b 0 ≡ b = omega arith in n ∙ sym m)

-- it isn't above the greatest so far
pub judged-low : (s : Bool) (b now reached : ℕ) → reached ≤ b → now ≡ b → now ≡ max b (if s then reached else 0)
judged-low true b now reached l n = let m : max b reached ≡ b = omega arith in n ∙ sym m
judged-low false b now reached l n = let m : max b 0 ≡ b = omega arith in n ∙ sym m
