-- The trees of the LSNs of blocks.
use Rattle.std.proofs.Common.{◌≡◌, ◌≢◌, ℕ, zero, suc, ◌<◌, ◌%◌, Bool, ◌&&◌, nat_eq, List, [], ◌∷◌, ◌++◌, length, get_or, if◌then◌else◌, Some, ap, ◌∙◌, arith, refl, slice_get, slice_set}
use Rattle.std.specs.Ordering.{is_eq}
use Rattle.std.specs.BTreeMap.{Updates}
use Rattle.std.proofs.lemmas.Bool.{cases_eq, ne_eqb}
use Rattle.std.proofs.lemmas.Option.{slice_get_read}
use Rattle.writer_core.specs.Kept.{Tree, block_cmp, lsn_in, lsn_under, PutsIn}
use Rattle.std.proofs.lemmas.Grind.{common_steps}

-- the tree has a number at the block
pub puts-some : (old : Tree) (group block lsn : ℕ) (new : Tree) → Updates block_cmp old new (block, group) (Some lsn) → PutsIn (lsn_in old) group block lsn (lsn_in new)
puts-some old group block lsn new updates q b = grind (arith, common_steps)

-- ---- several trees

-- with an empty tree more no block has a number
pub none_more : (all trees : List Tree) (tree : Tree) → all ≡ trees ++ tree ∷ [] → ((q b : ℕ) → lsn_in tree q b ≡ 0) → ((i q b : ℕ) → lsn_under (slice_get trees i) q b ≡ 0) → (i q b : ℕ) → lsn_under (slice_get all i) q b ≡ 0
none_more all trees tree is empty none i q b = ap (λ it. lsn_under (slice_get it i) q b) is ∙ joined trees none i
  where
    joined : (before : List Tree) → ((i q b : ℕ) → lsn_under (slice_get before i) q b ≡ 0) → (i : ℕ) → lsn_under (slice_get (before ++ tree ∷ []) i) q b ≡ 0
    joined [] none zero = empty q b
    joined [] none (suc i) = refl
    joined (x ∷ xs) none zero = none 0 q b
    joined (x ∷ xs) none (suc i) = joined xs (λ j p c. none (suc j) p c) i

-- the tree that was set
set_same : (xs : List Tree) (i : ℕ) (x : Tree) → i < length xs → slice_get (slice_set xs i x) i ≡ Some x
set_same [] i x h = absurd (omega arith)
set_same (y ∷ xs) zero x h = refl
set_same (y ∷ xs) (suc i) x h = set_same xs i x (omega arith)

-- the other trees
set_other : (xs : List Tree) (i j : ℕ) (x : Tree) → j ≢ i → slice_get (slice_set xs i x) j ≡ slice_get xs j
set_other [] i j x n = refl
set_other (y ∷ xs) zero zero x n = absurd (n refl)
set_other (y ∷ xs) zero (suc j) x n = refl
set_other (y ∷ xs) (suc i) zero x n = refl
set_other (y ∷ xs) (suc i) (suc j) x n = set_other xs i j x (λ e. n (ap suc e))

-- a block's number in its tree
pub in_tree : (xs : List Tree) (i q b : ℕ) (tree : Tree) → i < length xs → tree ≡ get_or xs i tree → lsn_under (slice_get xs i) q b ≡ lsn_in tree q b
in_tree xs i q b tree within is = ap (λ it. lsn_under it q b) (slice_get_read xs (length xs) i tree refl within is)

-- a block's number is set in its tree
pub puts-in_tree : (xs : List Tree) (n group block lsn : ℕ) (known : ℕ → ℕ → ℕ) (old new : Tree) → ((q b : ℕ) → lsn_under (slice_get xs (b % n)) q b ≡ known q b) → block % n < length xs → old ≡ get_or xs (block % n) old → PutsIn (lsn_in old) group block lsn (lsn_in new)
    → PutsIn known group block lsn (λ q b. lsn_under (slice_get (slice_set xs (block % n) new) (b % n)) q b)
puts-in_tree xs n group block lsn known old new same within is puts q b = grind (arith, common_steps, cases_eq, slice_set, set_same, in_tree, nat_eq, ne_eqb, set_other, Bool, ℕ, (cases_eq (b % n) (block % n)), (slice_set xs (block % n) new), (set_same xs (block % n) new within), (in_tree xs (block % n) q b old within is), (nat_eq group q && nat_eq block b))
