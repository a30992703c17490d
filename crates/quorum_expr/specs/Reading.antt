-- Reading an expression from a JSON value: the expression, or the first fault in reading order.
use Rattle.std.specs.Prelude.{◌&&◌, ◌||◌, ◌==◌, ℕ, zero, suc, ◌+◌, Bool, List, [], ◌∷◌, length, map, get_or, Option, Some, None, Result, Ok, Err, nat_lt, nat_le, codes, if◌then◌else◌}
use Rattle.std.specs.Str.{bytes_eq}
use Rattle.std.specs.Ordering.{nat_cmp}
use Rattle.std.specs.FinSet.{FinSet, contains, difference}
use Rattle.serde_json.specs.Data.{unsigned, negative, float, Data, null, boolean, number, string, array, object, Items, no_items, item}
use Rattle.serde_json.specs.Events.{members_len, items_len}
use Rattle.serde_json.specs.Find.{get}
use Rattle.volume_model.specs.declared.fault.Fault.{Fault}
use Rattle.volume_model.specs.declared.fault.Fault.TheVariants.{BadCount, TooDeep, NotAMember, Malformed, OverLimit}
use Rattle.volume_model.specs.Common.{◌>>=◌, Formula, Children, at_least, no_child, child, listed}
use Rattle.volume_model.specs.Formula.{member}
use Rattle.quorum_expr.specs.declared.form.Lists.{Lists}
use Rattle.quorum_expr.specs.declared.form.ListName.{ListName}
use Rattle.quorum_expr.specs.declared.form.ListName.TheVariants.{All, Full, Tail}
use Rattle.quorum_expr.specs.Valid.{good_choice, nodes}

-- the children of a threshold: written out, or a named list
pub data ChildList : Type 0 where
  each : Items → ChildList
  named : ListName → ChildList

-- the weights of children: as written, or 1 each if none are written
abbrev pub Weights : Type 0
Weights = Option (List ℕ)

-- one level of a value: a number, or a threshold over children with their weights
pub data Form : Type 0 where
  single : ℕ → Form
  choice : ℕ → ChildList → Weights → Form

-- the list with this name
abbrev pub list_name_of : List ℕ → Option ListName
list_name_of text =
    if bytes_eq text (codes "all") then Some All else (if bytes_eq text (codes "full") then Some Full else
    (if bytes_eq text (codes "tail") then Some Tail else None))

-- the members of a named list
abbrev pub set_of : Lists → ListName → FinSet nat_cmp
set_of lists All = lists.members
set_of lists Full = lists.full
set_of lists Tail = difference lists.members lists.full

abbrev pub named_or_malformed : Option ListName → Result ChildList Fault
named_or_malformed None = Err Malformed
named_or_malformed (Some name) = Ok (named name)

-- children as an array or as the name of a list
abbrev pub child_list_of : Data → Result ChildList Fault
child_list_of (array ds) = Ok (each ds)
child_list_of (string s) = named_or_malformed (list_name_of s)
child_list_of null = Err Malformed
child_list_of (boolean b) = Err Malformed
child_list_of (number n) = Err Malformed
child_list_of (object ms) = Err Malformed

-- a whole number from 0
abbrev pub whole_of : Data → Result ℕ Fault
whole_of (number (unsigned n)) = Ok n
whole_of (number (negative z)) = Err Malformed
whole_of (number (float x)) = Err Malformed
whole_of null = Err Malformed
whole_of (boolean b) = Err Malformed
whole_of (string s) = Err Malformed
whole_of (array ds) = Err Malformed
whole_of (object ms) = Err Malformed

abbrev pub found_or_malformed : Option Data → Result Data Fault
found_or_malformed None = Err Malformed
found_or_malformed (Some d) = Ok d

-- the value at a key
abbrev pub at_key : List ℕ → Data → Result Data Fault
at_key key d = found_or_malformed (get key d)

-- the number of children
abbrev pub child_count : Lists → ChildList → ℕ
child_count lists (each ds) = items_len ds
child_count lists (named name) = length (listed (set_of lists name))

-- whole numbers from 0
abbrev pub wholes_of : Items → Result (List ℕ) Fault
wholes_of no_items = Ok []
wholes_of (item d ds) = whole_of d >>= λ n. wholes_of ds >>= λ ns. Ok (n ∷ ns)

-- an array of whole numbers
abbrev pub whole_list_of : Data → Result (List ℕ) Fault
whole_list_of (array ds) = wholes_of ds
whole_list_of null = Err Malformed
whole_list_of (boolean b) = Err Malformed
whole_list_of (number n) = Err Malformed
whole_list_of (string s) = Err Malformed
whole_list_of (object ms) = Err Malformed

-- the weights, if there are as many as children
abbrev pub one_each : ℕ → List ℕ → Result Weights Fault
one_each n ws = if length ws == n then Ok (Some ws) else Err Malformed

-- the weights of n children: those at the key "weights" if the object has a third key, else 1 each
unfoldable pub weights_of : ℕ → ℕ → Data → Result Weights Fault
weights_of keys n d = if keys == 2 then Ok None else (at_key (codes "weights") d >>= λ ws. whole_list_of ws >>= one_each
    n)

-- a threshold: its number at the key "k", its children at the key "of", and their weights
unfoldable pub choice_of : Lists → ℕ → Data → Result Form Fault
choice_of lists keys d = do
  k ← at_key (codes "k") d
  n ← whole_of k
  of ← at_key (codes "of") d
  list ← child_list_of of
  ws ← weights_of keys (child_count lists list) d
  Ok (choice n list ws)

-- the object has two keys, or three if weights are allowed
abbrev pub good_keys : Bool → ℕ → Bool
good_keys is_weighted n = n == 2 || (is_weighted && n == 3)

-- a whole number, or an object with the keys "k" and "of", and the key "weights" if weights are allowed
unfoldable pub form_of : Lists → Data → Result Form Fault
form_of lists (number n) = whole_of (number n) >>= λ m. Ok (single m)
form_of lists (object ms) = if good_keys lists.is_weighted (members_len ms) then choice_of lists (members_len ms)
    (object ms) else Err Malformed
form_of lists null = Err Malformed
form_of lists (boolean b) = Err Malformed
form_of lists (string s) = Err Malformed
form_of lists (array ds) = Err Malformed

-- a weight up to 255, and 0 for any other, which no threshold admits
abbrev pub small : ℕ → ℕ
small w = if nat_le w 255 then w else 0

-- the weight of the child with a number
abbrev pub weight_of : Weights → ℕ → ℕ
weight_of None i = 1
weight_of (Some ws) i = small (get_or ws i 0)

-- formulas as children with their weights; the first is child i
abbrev pub weighing : Weights → ℕ → List Formula → Children
weighing ws i [] = no_child
weighing ws i (f ∷ fs) = child (weight_of ws i) f (weighing ws (i + 1) fs)

-- placeholders for n children that haven't been read
abbrev pub unread : ℕ → List Formula
unread zero = []
unread (suc n) = member 0 ∷ unread n

-- the threshold is valid for n children with these weights, whatever the children are
abbrev pub good_row : ℕ → ℕ → Weights → Bool
good_row k n ws = good_choice k (weighing ws 0 (unread n))

-- the formulas that read gives for the items, up to the first fault
abbrev pub each_of : (Data → Result Formula Fault) → Items → Result (List Formula) Fault
each_of read no_items = Ok []
each_of read (item d ds) = read d >>= λ f. each_of read ds >>= λ fs. Ok (f ∷ fs)

-- the members as formulas, if one more level is allowed
abbrev pub members_at : ℕ → List ℕ → Result (List Formula) Fault
members_at zero members = Err TooDeep
members_at (suc left) members = Ok (map member members)

-- the children, with this many levels left
abbrev pub children_at : Lists → ℕ → (Data → Result Formula Fault) → ChildList → Result (List Formula) Fault
children_at lists left read (each ds) = each_of read ds
children_at lists left read (named name) = members_at left (listed (set_of lists name))

-- A number has to be a member, and a threshold valid for its children's weights. left is the number of levels that the
-- children may have.
abbrev pub formula_from : Lists → ℕ → (Data → Result Formula Fault) → Form → Result Formula Fault
formula_from lists left read (single n) = if nat_lt n 64 && contains lists.members n then Ok (member n) else Err
    NotAMember
formula_from lists left read (choice k list ws) =
    if good_row k (child_count lists list) ws then (children_at lists left read list >>= λ fs. Ok
    (at_least k (weighing ws 0 fs))) else Err BadCount

-- the formula of a value with this many levels left. Its own shape is tested first, then its level, its threshold or
-- number, and its children in order
unfoldable pub formula_at : Lists → ℕ → Data → Result Formula Fault
formula_at lists zero d = form_of lists d >>= λ form. Err TooDeep
formula_at lists (suc left) d = form_of lists d >>= formula_from lists left (formula_at lists left)

-- the expression of a value; its nodes, at most 4,096, are counted last
unfoldable pub expression_in : Lists → Data → Result Formula Fault
expression_in lists d = formula_at lists 6 d >>= λ f. if nat_le (nodes f) 4096 then Ok f else Err OverLimit
