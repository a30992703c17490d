-- Reading a certificate from a JSON value: its rule, or the first fault in reading order.
use Rattle.std.specs.Prelude.{ℕ, zero, suc, ◌&&◌, ◌==◌, Bool, true, List, [], ◌∷◌, length, Option, Some, None, Result, Ok, Err, nat_le, codes, if◌then◌else◌}
use Rattle.std.specs.Str.{bytes_eq}
use Rattle.serde_json.specs.Data.{Data, null, boolean, number, string, array, object, Items, no_items, item}
use Rattle.serde_json.specs.Events.{members_len, items_len}
use Rattle.serde_json.specs.Find.{at}
use Rattle.volume_model.specs.declared.fault.Fault.{Fault}
use Rattle.volume_model.specs.declared.fault.Fault.TheVariants.{Malformed, OverLimit}
use Rattle.volume_model.specs.Common.{◌>>=◌}
use Rattle.quorum_expr.specs.Common.{found_or_malformed, at_key, whole_of}
use Rattle.refutation.specs.declared.Side.{Side}
use Rattle.refutation.specs.declared.Side.TheVariants.{Left, Right}
use Rattle.refutation.specs.declared.form.RuleName.{RuleName}
use Rattle.refutation.specs.declared.form.RuleName.TheVariants as names
use Rattle.refutation.specs.Rule.{Rule, dead, clash, open_all, pick, pair_up, split, branches_of}
use Rattle.refutation.specs.Limits.{is_certificate}

-- ---- values at one level

-- the value is an object with n keys
abbrev pub has_keys : ℕ → Data → Result (Unit {0}) Fault
has_keys n (object ms) = if members_len ms == n then Ok tt else Err Malformed
has_keys n null = Err Malformed
has_keys n (boolean b) = Err Malformed
has_keys n (number m) = Err Malformed
has_keys n (string s) = Err Malformed
has_keys n (array ds) = Err Malformed

-- the items of an array
abbrev pub array_of : Data → Result Items Fault
array_of (array ds) = Ok ds
array_of null = Err Malformed
array_of (boolean b) = Err Malformed
array_of (number m) = Err Malformed
array_of (string s) = Err Malformed
array_of (object ms) = Err Malformed

-- the items of an array of two
abbrev pub two_in : Items → Result (Data × Data) Fault
two_in (item first (item second no_items)) = Ok (first, second)
two_in no_items = Err Malformed
two_in (item first no_items) = Err Malformed
two_in (item first (item second (item third ds))) = Err Malformed

unfoldable pub two_of : Data → Result (Data × Data) Fault
two_of d = array_of d >>= two_in

-- the entry of an array at a place
abbrev pub entry_at : ℕ → Data → Result Data Fault
entry_at i d = found_or_malformed (at i d)

-- a whole number from 0 to a limit
unfoldable pub number_to : ℕ → Data → Result ℕ Fault
number_to most d = whole_of d >>= λ n. if nat_le n most then Ok n else Err Malformed

-- a whole number from 0 to a limit, at a key
unfoldable pub number_at : List ℕ → ℕ → Data → Result ℕ Fault
number_at key most d = at_key key d >>= number_to most

-- the side with this name
abbrev pub side_in : List ℕ → Result Side Fault
side_in s = if bytes_eq s (codes "left") then Ok Left else (if bytes_eq s (codes "right") then Ok Right else Err
    Malformed)

-- the side that a value names
abbrev pub side_of : Data → Result Side Fault
side_of (string s) = side_in s
side_of null = Err Malformed
side_of (boolean b) = Err Malformed
side_of (number m) = Err Malformed
side_of (array ds) = Err Malformed
side_of (object ms) = Err Malformed

-- the numbers of children in an array
abbrev pub numbers_of : Items → Result (List ℕ) Fault
numbers_of no_items = Ok []
numbers_of (item d ds) = number_to 255 d >>= λ n. numbers_of ds >>= λ ns. Ok (n ∷ ns)

-- an array of two numbers of children
unfoldable pub pair_of : Data → Result (ℕ × ℕ) Fault
pair_of d = array_of d >>= λ ds. if items_len ds == 2 then (entry_at 0 d >>= λ first. number_to 255 first >>= λ a.
    entry_at 1 d >>= λ second. number_to 255 second >>= λ b. Ok (a, b)) else Err Malformed

-- the pairs of an array
abbrev pub pairs_of : Items → Result (List (ℕ × ℕ)) Fault
pairs_of no_items = Ok []
pairs_of (item d ds) = pair_of d >>= λ p. pairs_of ds >>= λ ps. Ok (p ∷ ps)

-- ---- one rule

-- the rule with this name
abbrev pub rule_name_in : List ℕ → Option RuleName
rule_name_in s =
    if bytes_eq s (codes "dead") then Some names.Dead else (if bytes_eq s (codes "clash") then Some names.Clash else
    (if bytes_eq s (codes "open") then Some names.Open else (if bytes_eq s (codes "pick") then Some names.Pick else
    (if bytes_eq s (codes "match") then Some names.Match else (if bytes_eq s (codes "split") then Some names.Split else None)))))

abbrev pub name_or_malformed : Option RuleName → Result RuleName Fault
name_or_malformed None = Err Malformed
name_or_malformed (Some name) = Ok name

-- the rule that a value names
abbrev pub rule_name_of : Data → Result RuleName Fault
rule_name_of (string s) = name_or_malformed (rule_name_in s)
rule_name_of null = Err Malformed
rule_name_of (boolean b) = Err Malformed
rule_name_of (number m) = Err Malformed
rule_name_of (array ds) = Err Malformed
rule_name_of (object ms) = Err Malformed

-- the number of keys of a rule, its name included
abbrev pub key_count : RuleName → ℕ
key_count names.Dead = 3
key_count names.Clash = 3
key_count names.Open = 4
key_count names.Pick = 5
key_count names.Match = 5
key_count names.Split = 4

-- one level of a value, with the values of its branches
pub data Form : Type 0 where
  dead_form : Side → ℕ → Form
  clash_form : ℕ → ℕ → Form
  open_form : Side → ℕ → Data → Form
  pick_form : Side → ℕ → List ℕ → Items → Form
  match_form : ℕ → ℕ → List (ℕ × ℕ) → Items → Form
  split_form : ℕ → Data → Data → Form

unfoldable pub dead_in : Data → Result Form Fault
dead_in d = at_key (codes "side") d >>= λ s. side_of s >>= λ side. number_at (codes "item") 65535 d >>= λ i. Ok
    (dead_form side i)

unfoldable pub clash_in : Data → Result Form Fault
clash_in d = number_at (codes "left") 65535 d >>= λ i. number_at (codes "right") 65535 d >>= λ j. Ok (clash_form i j)

unfoldable pub open_in : Data → Result Form Fault
open_in d = at_key (codes "side") d >>= λ s. side_of s >>= λ side. number_at (codes "item") 65535 d >>= λ i. at_key
    (codes "then") d >>= λ rest. Ok (open_form side i rest)

unfoldable pub pick_in : Data → Result Form Fault
pick_in d =
    at_key (codes "side") d >>= λ s. side_of s >>= λ side. number_at (codes "item") 65535 d >>= λ i. at_key
    (codes "children") d >>= λ c. array_of c >>= λ cs. numbers_of cs >>= λ children.
    at_key (codes "then") d >>= λ t. array_of t >>= λ branches. Ok (pick_form side i children branches)

unfoldable pub match_in : Data → Result Form Fault
match_in d =
    number_at (codes "left") 65535 d >>= λ i. number_at (codes "right") 65535 d >>= λ j. at_key (codes "pairs") d >>= λ
    p. array_of p >>= λ ps. pairs_of ps >>= λ pairs.
    at_key (codes "then") d >>= λ t. array_of t >>= λ branches. Ok (match_form i j pairs branches)

unfoldable pub split_in : Data → Result Form Fault
split_in d = number_at (codes "member") 63 d >>= λ x. at_key (codes "left") d >>= λ left. at_key (codes "right") d >>= λ
    right. Ok (split_form x left right)

-- the fields of the rule with this name
abbrev pub fields_of : RuleName → Data → Result Form Fault
fields_of names.Dead d = dead_in d
fields_of names.Clash d = clash_in d
fields_of names.Open d = open_in d
fields_of names.Pick d = pick_in d
fields_of names.Match d = match_in d
fields_of names.Split d = split_in d

-- an object with the name of a rule, that rule's keys and no others
unfoldable pub form_of : Data → Result Form Fault
form_of d = at_key (codes "rule") d >>= λ r. rule_name_of r >>= λ name. has_keys (key_count name) d >>= λ u. fields_of
    name d

-- at most 255 children, pairs and branches
abbrev pub is_short : Form → Bool
is_short (dead_form side i) = true
is_short (clash_form i j) = true
is_short (open_form side i branches) = true
is_short (pick_form side i children branches) = nat_le (length children) 255 && nat_le (items_len branches) 255
is_short (match_form i j pairs branches) = nat_le (length pairs) 255 && nat_le (items_len branches) 255
is_short (split_form x left right) = true

-- ---- all levels

-- the rules that read gives for the values, up to the first fault
abbrev pub each_rule : (Data → Result Rule Fault) → Items → Result (List Rule) Fault
each_rule read no_items = Ok []
each_rule read (item d ds) = read d >>= λ r. each_rule read ds >>= λ rs. Ok (r ∷ rs)

-- the rule of a form, with its branches read in order
abbrev pub rule_from : (Data → Result Rule Fault) → Form → Result Rule Fault
rule_from read (dead_form side i) = Ok (dead side i)
rule_from read (clash_form i j) = Ok (clash i j)
rule_from read (open_form side i d) = read d >>= λ r. Ok (open_all side i r)
rule_from read (pick_form side i children branches) = each_rule read branches >>= λ rs. Ok
    (pick side i children (branches_of rs))
rule_from read (match_form i j pairs branches) = each_rule read branches >>= λ rs. Ok
    (pair_up i j pairs (branches_of rs))
rule_from read (split_form x left right) = read left >>= λ a. read right >>= λ b. Ok (split x a b)

-- The rule of a form with this many levels left. The lengths of its lists and its level are tested first, then its
-- branches in order.
unfoldable pub rule_level : ℕ → Form → Result Rule Fault
rule_level zero form = Err OverLimit
rule_level (suc left) form = if is_short form then rule_from (λ d. form_of d >>= rule_level left) form else Err
    OverLimit

-- the rule of a value with this many levels left; its own shape and numbers are tested first
abbrev pub rule_at : ℕ → Data → Result Rule Fault
rule_at left d = form_of d >>= rule_level left

-- the rule of a certificate; its number of rules is tested last
unfoldable pub certificate_in : Data → Result Rule Fault
certificate_in d = rule_at 40 d >>= λ r. if is_certificate r then Ok r else Err OverLimit
