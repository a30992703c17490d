-- Worked runs, computed
use Rattle.std.proofs.Common.{◌≡◌, ℕ, zero, suc, Bool, true, false, List, [], ◌∷◌, ◌++◌, Ok, Err, map, refl, ◌<◌, ◌∙◌, arith, ◌||◌, nat_eq}
use Rattle.std.specs.Ordering.{nat_cmp}
use Rattle.std.specs.FinSet.{FinSet, empty, insert, contains, contains-empty}
use Rattle.std.proofs.lemmas.Bool.Decides.{nat_tests}
use Rattle.volume_model.specs.Common.{Meets, KeepsClaim, KeepsStepClaim, KeepsClaims, six_root, six_copies, both_sixes, Redo, cut_of, Configuration, Plan, has_member, is_fresh, gathered, installed, durable_point, Change, Event, opening, run, results, Assign, Advance, Refresh, Issue, Take, Cut, Open, Resend, Deliver, Hydrate, Restart, Offer}
use Rattle.volume_model.proofs.Sets.{contains-put}
use Rattle.volume_model.proofs.Above.{above_first}
use Rattle.volume_model.specs.Formula.{member}
use Rattle.volume_model.specs.declared.fault.Fault.TheVariants.{NotEnough, NotWhole, Superseded}
use Rattle.std.proofs.lemmas.Grind.{common_steps}
use Rattle.std.proofs.Common.{rules}

-- the root, and then the step
abbrev one_or_two : ℕ → Configuration
one_or_two zero = six_root
one_or_two (suc c) = both_sixes

-- two configurations
abbrev stepped : Plan
stepped = record { lal = 10; born = 1; groups = 1; configurations = λ g. 2; configuration = λ g c. one_or_two c }

-- one byte at a place of block 0
abbrev write_of : ℕ → ℕ → Change
write_of offset byte = record { group = 0; block = 0; offset = offset; bytes = byte ∷ [] }

-- one message to each of these members
abbrev deliver_to : List ℕ → ℕ → List Event
deliver_to [] n = []
deliver_to (x ∷ xs) n = Deliver 0 x n ∷ deliver_to xs n

-- each of these messages to one client
abbrev take_all : ℕ → List ℕ → List Event
take_all v [] = []
take_all v (n ∷ ns) = Take v n ∷ take_all v ns

-- three records on four members, acknowledged; two more on one member; a recovery from three others
abbrev recovered : List Event
recovered =
    Issue 1 (write_of 0 97 ∷ write_of 1 98 ∷ write_of 2 99 ∷ []) ∷ []
    ++ deliver_to (0 ∷ 1 ∷ 2 ∷ 3 ∷ []) 1 ++ deliver_to (0 ∷ 1 ∷ 2 ∷ 3 ∷ []) 2 ++ deliver_to (0 ∷ 1 ∷ 2 ∷ 3 ∷ []) 3
    ++ take_all 1 (12 ∷ 13 ∷ 14 ∷ 15 ∷ [])
    ++ Issue 1 (write_of 3 100 ∷ write_of 4 101 ∷ []) ∷ Deliver 0 0 16 ∷ Deliver 0 0 17 ∷ Assign ∷ Take 2 20 ∷ []
    ++ deliver_to (1 ∷ 2 ∷ 3 ∷ []) 21 ++ take_all 2 (22 ∷ 23 ∷ 24 ∷ []) ++ Cut 2 ∷ []

recovered_results : results six_copies (opening six_copies) recovered ≡ Ok 3 ∷ Ok 1 ∷ Ok 1 ∷ Ok 1 ∷ Ok 1 ∷ Ok 1 ∷ Ok 1 ∷ Ok 1 ∷ Ok 1 ∷ Ok 1 ∷ Ok 1 ∷ Ok 1 ∷ Ok 1 ∷ Ok 0 ∷ Ok 0 ∷ Ok 0 ∷ Ok 0 ∷ Ok 2 ∷ Ok 1 ∷ Ok 1 ∷ Ok 1 ∷ Ok 1 ∷ Ok 1 ∷ Ok 1 ∷ Ok 1 ∷ Ok 0 ∷ Ok 0 ∷ Ok 0 ∷ Ok 1 ∷ []
recovered_results = refl

recovered_durable : durable_point ((run six_copies (opening six_copies) recovered).clients 1) ≡ 3
recovered_durable = refl

recovered_lineage : ((run six_copies (opening six_copies) recovered).clients 2).lineage ≡ record { volume = 2; cut = 3; start = 13 } ∷ record { volume = 1; cut = 0; start = 0 } ∷ []
recovered_lineage = refl

recovered_found : map (λ r. r.lsn) ((run six_copies (opening six_copies) recovered).clients 2).found ≡ 3 ∷ 2 ∷ 1 ∷ []
recovered_found = refl

-- installed on four members, opened, and one record more
abbrev reopened : List Event
reopened = recovered ++ deliver_to (0 ∷ 1 ∷ 2 ∷ 3 ∷ []) 25 ++ take_all 2 (26 ∷ 27 ∷ 28 ∷ 29 ∷ []) ++ Open 2 ∷ Issue 2 (write_of 5 102 ∷ []) ∷ Resend 2 14 ∷ Resend 2 4 ∷ []

reopened_log : map (λ r. r.lsn) ((run six_copies (opening six_copies) reopened).clients 2).log ≡ 14 ∷ 3 ∷ 2 ∷ 1 ∷ []
unfolding installed
reopened_log = refl

reopened_durable : durable_point ((run six_copies (opening six_copies) reopened).clients 2) ≡ 3
unfolding installed
reopened_durable = refl

-- an acknowledgement of a later membership epoch isn't counted
abbrev early : List Event
early =
    Issue 1 (write_of 0 97 ∷ []) ∷ Advance 0 1 ∷ deliver_to (0 ∷ 1 ∷ 2 ∷ 6 ∷ []) 2
    ++ deliver_to (0 ∷ 1 ∷ 2 ∷ []) 3 ++ deliver_to (6 ∷ []) 4 ++ deliver_to (6 ∷ []) 5 ++ deliver_to (6 ∷ []) 6 ++ Hydrate 0 6 ∷ []
    ++ deliver_to (3 ∷ 4 ∷ 5 ∷ []) 1 ++ Deliver 0 3 2 ∷ Offer 0 3 1 ∷ Deliver 0 0 10 ∷ [] ++ take_all 1 (7 ∷ 8 ∷ 9 ∷ 11 ∷ [])
    ++ Assign ∷ Take 2 12 ∷ [] ++ deliver_to (1 ∷ 2 ∷ 6 ∷ []) 13 ++ take_all 2 (14 ∷ 15 ∷ 16 ∷ []) ++ Cut 2 ∷ []

early_results : results stepped (opening stepped) early ≡ Ok 1 ∷ Ok 1 ∷ Ok 0 ∷ Ok 0 ∷ Ok 0 ∷ Ok 1 ∷ Ok 1 ∷ Ok 1 ∷ Ok 1 ∷ Ok 0 ∷ Ok 0 ∷ Ok 0 ∷ Ok 0 ∷ Ok 1 ∷ Ok 1 ∷ Ok 1 ∷ Ok 0 ∷ Ok 1 ∷ Ok 1 ∷ Ok 0 ∷ Ok 0 ∷ Ok 0 ∷ Ok 0 ∷ Ok 1 ∷ Ok 1 ∷ Ok 1 ∷ Ok 1 ∷ Ok 1 ∷ Ok 0 ∷ Ok 0 ∷ Ok 0 ∷ Ok 1 ∷ []
unfolding gathered
early_results = refl

early_durable : durable_point ((run stepped (opening stepped) early).clients 1) ≡ 0
unfolding gathered
early_durable = refl

early_lineage : ((run stepped (opening stepped) early).clients 2).lineage ≡ record { volume = 2; cut = 0; start = 10 } ∷ record { volume = 1; cut = 0; start = 0 } ∷ []
unfolding gathered
early_lineage = refl

-- refusals 40, 54 and 57
abbrev refused : List Event
refused =
    Advance 0 1 ∷ Deliver 0 6 1 ∷ deliver_to (0 ∷ 1 ∷ 2 ∷ []) 1 ++ Assign ∷ Refresh 1 ∷ Take 2 3 ∷ Deliver 0 6 4 ∷ Deliver 0 0 2 ∷ Deliver 0 6 5 ∷ Restart 0 6
    ∷ Deliver 0 1 2 ∷ Deliver 0 2 2 ∷ Deliver 0 6 6 ∷ Deliver 0 6 7 ∷ Hydrate 0 6 ∷ Deliver 0 6 5 ∷ Hydrate 0 6 ∷ Deliver 0 6 4 ∷ []

refused_results : results stepped (opening stepped) refused ≡ Ok 1 ∷ Ok 1 ∷ Ok 0 ∷ Ok 0 ∷ Ok 0 ∷ Ok 1 ∷ Err Superseded ∷ Ok 1 ∷ Err NotWhole ∷ Ok 1 ∷ Ok 0 ∷ Ok 0 ∷ Ok 1 ∷ Ok 1 ∷ Ok 0 ∷ Ok 0 ∷ Err NotEnough ∷ Ok 0 ∷ Ok 0 ∷ Ok 1 ∷ []
unfolding gathered
refused_results = refl

-- two records of one number: the first in order of bytes says whether the number is a consistency point
abbrev lone : ℕ → Bool → Redo
lone volume point = record { lsn = 5; volume = volume; prev_volume = 0; prev_group = 0; prev_block = 0; group = 0; block = 0; offset = 0; bytes = 97 ∷ []; point = point }

twin_cuts : map cut_of ((lone 1 true ∷ lone 2 false ∷ []) ∷ (lone 2 false ∷ lone 1 true ∷ []) ∷ (lone 1 false ∷ lone 2 true ∷ []) ∷ (lone 2 true ∷ lone 1 false ∷ []) ∷ []) ≡ 5 ∷ 5 ∷ 0 ∷ 0 ∷ []
twin_cuts = refl

-- ---- a plan whose claims are met

-- member 0 alone
abbrev lone_root : Configuration
lone_root = record { parent = 0; epoch = 1; members = 0 ∷ []; full = 0 ∷ []; read = member 0; write = member 0 }

-- member 1 comes in, and is not asked
abbrev lone_step : Configuration
lone_step = record { parent = 0; epoch = 2; members = 0 ∷ 1 ∷ []; full = 0 ∷ 1 ∷ []; read = member 0; write = member 0 }

-- the root, and then the step
abbrev lone_one : ℕ → Configuration
lone_one zero = lone_root
lone_one (suc c) = lone_step

-- one group that takes one step
abbrev lone_plan : Plan
lone_plan = record { lal = 10; born = 1; groups = 1; configurations = λ g. 2; configuration = λ g c. lone_one c }

zero_meets : (clear : FinSet nat_cmp) → Meets (member 0) (member 0) clear
zero_meets clear r w r_members w_members apart clear_of reads writes = apart 0 reads writes

lone_claim : (c : ℕ) → KeepsClaim (lone_one c)
lone_claim zero = record { members_below = λ x h. grind (arith, nat_tests); read_counts = tt; read_own = refl; write_own = refl; meets = zero_meets _ }
lone_claim (suc c) = record { members_below = λ x h. grind (arith, nat_tests); read_counts = tt; read_own = refl; write_own = refl; meets = zero_meets _ }

fresh_out : (x : ℕ) → is_fresh lone_plan 0 1 x ≡ true → has_member lone_root x ≡ false
fresh_out x h = grind (arith, nat_tests)

fresh_one : (x : ℕ) (none : Bool) → none ≡ false → (nat_eq x 1 || none) ≡ is_fresh lone_plan 0 1 x
fresh_one x none h = grind (arith, nat_tests)

lone_step_claim : (group c : ℕ) → c < 2 → 0 < c → KeepsStepClaim lone_plan group c
lone_step_claim group zero below positive = absurd (omega arith)
lone_step_claim group (suc zero) below positive = record {
  child = grind (arith, common_steps, lone_one, above_first, lone_plan, fresh_out);
  fresh = insert empty 1;
  fresh_is = λ x. contains-put empty 1 x ∙ fresh_one x (contains (empty {R = nat_cmp}) x) (contains-empty nat_cmp x);
  meets = zero_meets _;
}
lone_step_claim group (suc (suc c)) below positive = absurd (omega arith)

lone_claims : KeepsClaims lone_plan
lone_claims = search (rules, lone_claim, lone_step_claim)
