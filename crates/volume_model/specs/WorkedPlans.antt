-- Three plans that are certified: six copies, full and tail segments, and a member that is replaced.
use Rattle.std.specs.Prelude.{ℕ, zero, suc, List, [], ◌∷◌, map}
use Rattle.volume_model.specs.Formula.{Formula, member, at_least, each_once}
use Rattle.volume_model.specs.Plan.{Configuration, Plan, IsCertified}

-- at least k of these expressions
abbrev pub some_of : ℕ → List Formula → Formula
some_of k expressions = at_least k (each_once expressions)

-- at least k of these members
abbrev pub count_of : ℕ → List ℕ → Formula
count_of k members = some_of k (map member members)

-- members 0 to 5
abbrev pub six : List ℕ
six = 0 ∷ 1 ∷ 2 ∷ 3 ∷ 4 ∷ 5 ∷ []

-- the three members that keep whole pages
abbrev pub three : List ℕ
three = 0 ∷ 2 ∷ 4 ∷ []

-- member 6 in place of 5
abbrev pub other_six : List ℕ
other_six = 0 ∷ 1 ∷ 2 ∷ 3 ∷ 4 ∷ 6 ∷ []

-- members 0 to 6
abbrev pub seven : List ℕ
seven = 0 ∷ 1 ∷ 2 ∷ 3 ∷ 4 ∷ 5 ∷ 6 ∷ []

-- three of six read, four of six write
abbrev pub six_root : Configuration
six_root = record { parent = 0; epoch = 1; members = six; full = six; read = count_of 3 six; write = count_of 4 six }

-- one group with one configuration of six full members
abbrev pub six_copies : Plan
six_copies = record { lal = 10; born = 1; groups = 1; configurations = λ group. 1; configuration = λ group c. six_root }

-- three members keep whole pages. Read quorums: three of six with at least one of these. Write quorums: four of six, or
-- these three
abbrev pub full_and_tail_root : Configuration
full_and_tail_root = record {
  parent = 0;
  epoch = 1;
  members = six;
  full = three;
  read = some_of 2 (count_of 3 six ∷ count_of 1 three ∷ []);
  write = some_of 1 (count_of 4 six ∷ count_of 3 three ∷ []);
}

-- one group with one configuration of full and tail segments
abbrev pub full_and_tail : Plan
full_and_tail = record {
  lal = 10;
  born = 1;
  groups = 1;
  configurations = λ group. 1;
  configuration = λ group c.
      full_and_tail_root;
}

-- member 6 beside member 5: a read quorum of either six reads, write quorums of both write
abbrev pub both_sixes : Configuration
both_sixes = record {
  parent = 0;
  epoch = 2;
  members = seven;
  full = seven;
  read = some_of 1 (count_of 3 six ∷ count_of 3 other_six ∷ []);
  write = some_of 2 (count_of 4 six ∷ count_of 4 other_six ∷ []);
}

-- the step in which member 5 leaves
abbrev pub with_other : Configuration
with_other = record {
  parent = 1;
  epoch = 3;
  members = other_six;
  full = other_six;
  read = count_of 3 other_six;
  write =
      count_of 4 other_six;
}

-- the step in which member 6 leaves again
abbrev pub with_first : Configuration
with_first = record { parent = 1; epoch = 3; members = six; full = six; read = count_of 3 six; write = count_of 4 six }

-- the root, then both sixes, then either of them
abbrev pub replacing : ℕ → Configuration
replacing zero = six_root
replacing (suc zero) = both_sixes
replacing (suc (suc zero)) = with_other
replacing (suc (suc (suc c))) = with_first

-- one group in which a member may be replaced
abbrev pub member_replaced : Plan
member_replaced = record {
  lal = 10;
  born = 1;
  groups = 1;
  configurations = λ group. 4;
  configuration = λ group c.
      replacing c;
}

-- the plan of six copies is certified
abbrev pub SixCopiesCertified : Type 0
SixCopiesCertified = IsCertified six_copies

-- the plan of full and tail segments is certified
abbrev pub FullAndTailCertified : Type 0
FullAndTailCertified = IsCertified full_and_tail

-- the plan in which a member is replaced is certified
abbrev pub MemberReplacedCertified : Type 0
MemberReplacedCertified = IsCertified member_replaced
