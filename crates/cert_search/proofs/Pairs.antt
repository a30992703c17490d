-- Lists that are gone through from the front, and the trees that plain claims have.
use Rattle.std.proofs.Common.{◌≡◌, ℕ, ◌+◌, ◌<◌, ◌≤◌, List, [], ◌∷◌, ◌++◌, length, drop, get_or, map, append_assoc, refl, ap, ◌∙◌, sym, arith, add-one, drop-cons, rules, None, Option, Some, true, false, nat_le, ◌&&◌, Bool, cond}
use Rattle.std.specs.List.{position_from}
use Rattle.refutation.proofs.Loop.{next}
use Rattle.std.proofs.lemmas.List.{map-append}
use Rattle.std.proofs.lemmas.Bool.Decides.{nat_tests}
use Rattle.refutation.specs.declared.Refutation.{Refutation}
use Rattle.refutation.specs.declared.Refutation.TheVariants.{Clash}
use Rattle.refutation.specs.declared.Refutation.TheFolds.{the_lemmas}
use Rattle.refutation.specs.Common.{clash, pair_up, branches_of, branch_count, branch_depth, rule_of, is_certificate, each_keeps_lists, branch_nodes}
use Rattle.cert_search.specs.Plain.{clashes, onto}

-- ---- pairs so far, and those of what is left

clash-is : (A : Type 0) → rule_of {A = A} (Clash 0 0) ≡ clash 0 0
clash-is A = search (rules, the_lemmas)

-- one clash more, and one pair fewer left
pub clashed : {A : Type 0} (before after : List (Refutation A)) (ps : List (ℕ × ℕ)) (i : ℕ) → i < length ps → after ≡ before ++ Clash 0 0 ∷ [] → map rule_of before ++ clashes (drop i ps) ≡ clashes ps → map rule_of after ++ clashes (drop (i + 1) ps) ≡ clashes ps
clashed {A} before after ps i h more so_far =
    ap (λ ts. map rule_of ts ++ clashes (drop (i + 1) ps)) more ∙ ap (λ rs. rs ++ clashes (drop (i + 1) ps)) (map-append rule_of before (Clash 0 0 ∷ []))
    ∙ ap (λ r. (map rule_of before ++ r ∷ []) ++ clashes (drop (i + 1) ps)) (clash-is A) ∙ append_assoc (map rule_of before) (clash 0 0 ∷ []) (clashes (drop (i + 1) ps))
    ∙ ap (λ n. map rule_of before ++ clash 0 0 ∷ clashes (drop n ps)) (add-one i) ∙ ap (λ rest. map rule_of before ++ clashes rest) (sym (drop-cons ps i (0, 0) h)) ∙ so_far

-- nothing stands at the place
pub kept : {A : Type 0} (all before now rest : List A) (found : Option A) → all ≡ before ++ now → now ≡ onto found rest → found ≡ None → all ≡ before ++ rest
kept all before now rest found so_far is none = so_far ∙ ap (λ xs. before ++ xs) (is ∙ ap (λ o. onto o rest) none)

-- what stands at the place goes to the end
pub paired : {A : Type 0} (all before after now rest : List A) (found : Option A) (x : A) → all ≡ before ++ now → now ≡ onto found rest → found ≡ Some x → after ≡ before ++ x ∷ [] → all ≡ after ++ rest
paired all before after now rest found x so_far is some more =
    so_far ∙ ap (λ xs. before ++ xs) (is ∙ ap (λ o. onto o rest) some) ∙ sym (append_assoc before (x ∷ []) rest) ∙ ap (λ xs. xs ++ rest) (sym more)

-- ---- the place of the first that passes a test

pub found_at : {X Y : Type 0} (f : X → Y) (test : Y → Bool) (xs : List X) (j : ℕ) (x : X) (all : Option ℕ) → j < length xs → x ≡ get_or xs j x → test (f x) ≡ true → all ≡ position_from test j (map f (drop j xs)) → Some j ≡ all
found_at f test xs j x all h is here so_far =
    sym (so_far ∙ ap (position_from test j) (next f xs j x h is) ∙ ap (λ b. cond b (Some j) (position_from test (j + 1) (map f (drop (j + 1) xs)))) here)

pub not_at : {X Y : Type 0} (f : X → Y) (test : Y → Bool) (xs : List X) (j : ℕ) (x : X) (all : Option ℕ) → j < length xs → x ≡ get_or xs j x → test (f x) ≡ false → all ≡ position_from test j (map f (drop j xs)) → all ≡ position_from test (j + 1) (map f (drop (j + 1) xs))
not_at f test xs j x all h is none so_far =
    so_far ∙ ap (position_from test j) (next f xs j x h is) ∙ ap (λ b. cond b (Some j) (position_from test (j + 1) (map f (drop (j + 1) xs)))) none

-- ---- the limits of a match of the only items

clash_count : (ps : List (ℕ × ℕ)) → branch_count (branches_of (clashes ps)) ≡ length ps
clash_count [] = refl
clash_count (p ∷ ps) = omega (arith, clash_count ps)

clash_nodes : (ps : List (ℕ × ℕ)) → branch_nodes (branches_of (clashes ps)) ≡ length ps
clash_nodes [] = refl
clash_nodes (p ∷ ps) = omega (arith, clash_nodes ps)

clash_depth : (ps : List (ℕ × ℕ)) → branch_depth (branches_of (clashes ps)) ≤ 1
clash_depth [] = omega arith
clash_depth (p ∷ ps) = omega (arith, clash_depth ps)

clash_lists : (ps : List (ℕ × ℕ)) → each_keeps_lists (branches_of (clashes ps)) ≡ true
clash_lists [] = refl
clash_lists (p ∷ ps) = clash_lists ps

both : (a b c d e : Bool) → a ≡ true → b ≡ true → c ≡ true → d ≡ true → e ≡ true → (a && ((b && (c && d)) && e)) ≡ true
both a b c d e ha hb hc hd he = λ i. ha i && ((hb i && (hc i && hd i)) && he i)

at_most : (m n : ℕ) → m ≤ n → nat_le m n ≡ true
at_most m n h = grind (arith, nat_tests)

-- it is within the limits of a certificate
pub within : (ps : List (ℕ × ℕ)) → length ps ≤ 64 → is_certificate (pair_up 0 0 ps (branches_of (clashes ps))) ≡ true
within ps few =
    both _ _ _ _ _ (at_most (1 + branch_depth (branches_of (clashes ps))) 40 (omega (arith, clash_depth ps))) (at_most (length ps) 255 (omega arith))
    (at_most (branch_count (branches_of (clashes ps))) 255 (omega (arith, clash_count ps))) (clash_lists ps)
    (at_most (1 + branch_nodes (branches_of (clashes ps))) 100000 (omega (arith, clash_nodes ps)))
