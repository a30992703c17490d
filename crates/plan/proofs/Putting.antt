-- Values that were put behind the tokens of a writer, put together from their parts.
use Rattle.std.proofs.Common.{◌≡◌, ℕ, ◌<◌, ◌≤◌, ◌^◌, List, [], ◌∷◌, ◌++◌, map, length, take, get_or, ◌+◌, Option, Some, None, refl, ap, sym, subst, ◌∙◌, arith, append-nil, append_assoc, decimal, option_map, option_and_then, Result, Ok, Err, OnSome}
use Rattle.std.specs.Result.{result_ok}
use Rattle.std.proofs.lemmas.List.{map-append, take_all, take_more}
use Rattle.json.specs.Token.{Token, begin_object, end_object, begin_array, end_array}
use Rattle.json.specs.Json as json
use Rattle.json.specs.Tree as tree
use Rattle.json.specs.Tree.{json_tokens, items_tokens, members_tokens}
use Rattle.json.specs.Written.{Written, Writes}
use Rattle.serde_json.specs.Data.{Data, unsigned, null, number, string, array, object, Items, no_items, item, Members, no_members, member, put, depth, items_depth, members_depth}
use Rattle.serde_json.specs.Read.{of_json, of_items, of_members, number_of}
use Rattle.serde_json.specs.Written.{outline, items_outline, members_outline, blank, blank_items, blank_members}
use Rattle.serde_json.proofs.Numbers.{number_of-decimal}
use Rattle.serde_json.proofs.Texts.{unless_float-number_of}
use Rattle.refutation.specs.Common.{number_data}
use Rattle.plan.specs.Puts.{Puts, PutsToken, PutsMember, Opens, open_tokens, all_tokens, IsOf, AreOf, Lists}
use Rattle.plan.proofs.Joined.{joined}
use Rattle.std.proofs.lemmas.Grind.{common_steps}

-- what follows where something was put
pub then_put : {A B : Type 0} (o : Option (Unit {0})) → OnSome o A → (A → B) → OnSome o B
then_put (Some u) h f = f h
then_put None h f = tt

-- ---- single tokens

-- a token that the writer took
pub token_put : {E : Type 0} (r : Result (Unit {0}) E) (old new : Written) (t : Token) → Writes r old new t → OnSome (result_ok r) (PutsToken t old new)
token_put (Ok u) old new t w = record { tokens = w.ok; before = w.room.0 }
token_put (Err e) old new t w = tt

-- the same of a value of one token
pub value_put : {E : Type 0} (r : Result (Unit {0}) E) (old new : Written) (t : Token) (d : Data) → (PutsToken t old new → Puts d old new) → Writes r old new t → OnSome (result_ok r) (Puts d old new)
value_put (Ok u) old new t d is w = is (record { tokens = w.ok; before = w.room.0 })
value_put (Err e) old new t d is w = tt

pub null_put : (old new : Written) → PutsToken Token.null old new → Puts null old new
null_put old new t = record { value = (json.null, t.tokens, refl, omega arith, refl); before = t.before }

pub string_put : (s : List ℕ) (old new : Written) → PutsToken (Token.string s) old new → Puts (string s) old new
string_put s old new t = record { value = (json.string s, t.tokens, refl, omega arith, refl); before = t.before }

pub number_put : (n : ℕ) (old new : Written) → n < 2 ^ 64 → PutsToken (Token.number (decimal n)) old new → Puts (number_data n) old new
number_put n old new small t =
    let is : number_of (decimal n) ≡ Some (unsigned n) = number_of-decimal n small in
    record {
      value = (json.number (decimal n), t.tokens, ap (option_map number) is, omega arith, ap json.number (unless_float-number_of (decimal n) (unsigned n) is));
      before = t.before;
    }

-- ---- objects

-- members, and one more
abbrev json_and : json.Members → List ℕ → json.Json → json.Members
json_and json.no_members k j = json.member k j json.no_members
json_and (json.member l i ms) k j = json.member l i (json_and ms k j)

abbrev pub members_and : Members → List ℕ → Data → Members
members_and no_members k d = member k d no_members
members_and (member l e ms) k d = member l e (members_and ms k d)

tokens-and : (ms : json.Members) (k : List ℕ) (j : json.Json) → open_tokens (json_and ms k j) ≡ open_tokens ms ++ Token.key k ∷ json_tokens j
tokens-and json.no_members k j = ap (λ ts. Token.key k ∷ ts) (append-nil (json_tokens j))
tokens-and (json.member l i ms) k j = grind (arith, common_steps, append_assoc, (tokens-and ms k j))

tokens-end : (ms : json.Members) → open_tokens ms ++ end_object ∷ [] ≡ members_tokens ms
tokens-end json.no_members = refl
tokens-end (json.member k j ms) = ap (λ ts. Token.key k ∷ ts) (append_assoc (json_tokens j) (open_tokens ms) (end_object ∷ []) ∙ ap (λ ts. json_tokens j ++ ts) (tokens-end ms))

some-then : {A B : Type 0} (o : Option A) (f g : A → Option B) (b c : B) → ((a : A) → f a ≡ Some b → g a ≡ Some c) → option_and_then f o ≡ Some b → option_and_then g o ≡ Some c
some-then None f g b c more h = absurd (cc)
some-then (Some a) f g b c more h = more a h

of-and : (ms : json.Members) (k : List ℕ) (j : json.Json) (d : Data) (found most : Members) → of_members ms found ≡ Some most → of_json j ≡ Some d → of_members (json_and ms k j) found ≡ Some (put k d most)
of-and json.no_members k j d found most h is = grind (arith, common_steps)
of-and (json.member l i ms) k j d found most h is =
    some-then (of_json i) (λ e. of_members ms (put l e found)) (λ e. of_members (json_and ms k j) (put l e found)) most (put k d most) (λ e g. of-and ms k j d (put l e found) most g is) h

blank-json : (ms : json.Members) (k : List ℕ) (j : json.Json) → blank_members (json_and ms k j) ≡ json_and (blank_members ms) k (blank j)
blank-json json.no_members k j = refl
blank-json (json.member l i ms) k j = ap (json.member l (blank i)) (blank-json ms k j)

outline-data : (found : Members) (k : List ℕ) (d : Data) → members_outline (members_and found k d) ≡ json_and (members_outline found) k (outline d)
outline-data no_members k d = refl
outline-data (member l e ms) k d = ap (json.member l (outline e)) (outline-data ms k d)

blank-and : (ms : json.Members) (k : List ℕ) (j : json.Json) (found : Members) (d : Data) → blank_members ms ≡ members_outline found → blank j ≡ outline d → blank_members (json_and ms k j) ≡ members_outline (members_and found k d)
blank-and ms k j found d h is = blank-json ms k j ∙ (λ i. json_and (h i) k (is i)) ∙ sym (outline-data found k d)

json-nests : (ms : json.Members) (k : List ℕ) (j : json.Json) (n : ℕ) → tree.members_depth ms ≤ n → tree.depth j ≤ n → tree.members_depth (json_and ms k j) ≤ n
json-nests json.no_members k j n h is = omega arith
json-nests (json.member l i ms) k j n h is = let rest : tree.members_depth (json_and ms k j) ≤ n = json-nests ms k j n (omega arith) is in omega arith

data-nests : (ms : Members) (k : List ℕ) (d : Data) → (members_depth ms ≤ members_depth (members_and ms k d)) × (depth d ≤ members_depth (members_and ms k d))
data-nests no_members k d = (omega arith, omega arith)
data-nests (member l e ms) k d = let rest = data-nests ms k d in (omega (arith, rest.0), omega (arith, rest.1))

-- an object begins
pub opened : (old new : Written) → PutsToken begin_object old new → Opens no_members old new
opened old new t = record { members = json.no_members; tokens = t.tokens; is = refl; same = refl; nests = omega arith; before = t.before }

-- A key that comes behind all others, and its value.
pub one_more : (found : Members) (k : List ℕ) (d : Data) (old between new : Written) → put k d found ≡ members_and found k d → Opens found old between → PutsMember k d between new → Opens (members_and found k d) old new
one_more found k d old between new last so_far m =
    let w = m.value.value in
    let both = data-nests found k d in
    grind (arith, common_steps, json_and, append_assoc, tokens-and, of-and, Some, blank-and, json-nests, members_and, (json_and so_far.members k w.0), (append_assoc (old.tokens ++ begin_object ∷ open_tokens so_far.members) (Token.key k ∷ []) (json_tokens w.0)), (append_assoc old.tokens (begin_object ∷ open_tokens so_far.members) (Token.key k ∷ json_tokens w.0)), (tokens-and so_far.members k w.0), (of-and so_far.members k w.0 d no_members found so_far.is w.2))

-- an object ends
pub closed : (found : Members) (old between new : Written) → Opens found old between → PutsToken end_object between new → Puts (object found) old new
closed found old between new so_far t = record {
  value = (
    json.object so_far.members,
    t.tokens ∙ ap (λ ts. ts ++ end_object ∷ []) so_far.tokens ∙ append_assoc old.tokens (begin_object ∷ open_tokens so_far.members) (end_object ∷ []) ∙ ap (λ ts. old.tokens ++ begin_object ∷ ts) (tokens-end so_far.members),
    ap (option_map object) so_far.is,
    omega (arith, so_far.nests),
    ap json.object so_far.same,
  );
  before = t.before ∙ so_far.before;
}

-- ---- lists

-- these values, as the items of a list
abbrev items_all : List json.Json → json.Items
items_all [] = json.no_items
items_all (j ∷ js) = json.item j (items_all js)

all-and : (js : List json.Json) (j : json.Json) → all_tokens (js ++ j ∷ []) ≡ all_tokens js ++ json_tokens j
all-and [] j = append-nil (json_tokens j)
all-and (i ∷ js) j = ap (λ ts. json_tokens i ++ ts) (all-and js j) ∙ sym (append_assoc (json_tokens i) (all_tokens js) (json_tokens j))

all-end : (js : List json.Json) → all_tokens js ++ end_array ∷ [] ≡ items_tokens (items_all js)
all-end [] = refl
all-end (j ∷ js) = append_assoc (json_tokens j) (all_tokens js) (end_array ∷ []) ∙ ap (λ ts. json_tokens j ++ ts) (all-end js)

are-and : (js : List json.Json) (ds : List Data) (j : json.Json) (d : Data) → AreOf js ds → IsOf j d → AreOf (js ++ j ∷ []) (ds ++ d ∷ [])
are-and [] [] j d h is = (is, tt)
are-and [] (e ∷ ds) j d h is = absurd h
are-and (i ∷ js) [] j d h is = absurd h
are-and (i ∷ js) (e ∷ ds) j d h is = (h.0, are-and js ds j d h.1 is)

are-items : (js : List json.Json) (ds : List Data) → AreOf js ds → of_items (items_all js) ≡ Some (joined ds no_items)
are-items [] [] h = refl
are-items [] (e ∷ ds) h = absurd h
are-items (i ∷ js) [] h = absurd h
are-items (i ∷ js) (e ∷ ds) h = ap (option_and_then (λ d. option_map (item d) (of_items (items_all js)))) h.0.is ∙ ap (option_map (item e)) (are-items js ds h.1)

are-blank : (js : List json.Json) (ds : List Data) → AreOf js ds → blank_items (items_all js) ≡ items_outline (joined ds no_items)
are-blank [] [] h = refl
are-blank [] (e ∷ ds) h = absurd h
are-blank (i ∷ js) [] h = absurd h
are-blank (i ∷ js) (e ∷ ds) h = λ x. json.item (h.0.same x) (are-blank js ds h.1 x)

are-nested : (js : List json.Json) (ds : List Data) → AreOf js ds → tree.items_depth (items_all js) ≤ items_depth (joined ds no_items)
are-nested [] [] h = omega arith
are-nested [] (e ∷ ds) h = absurd h
are-nested (i ∷ js) [] h = absurd h
are-nested (i ∷ js) (e ∷ ds) h = grind (arith, common_steps, items_all, joined, (are-nested js ds h.1))

-- a list begins
pub listing : (old new : Written) → PutsToken begin_array old new → Lists [] old new
listing old new t = record { items = []; tokens = t.tokens; are = tt; before = t.before }

-- one more value
pub one_listed : (ds : List Data) (d : Data) (old between new : Written) → Lists ds old between → Puts d between new → Lists (ds ++ d ∷ []) old new
one_listed ds d old between new so_far p =
    let w = p.value in
    grind (arith, common_steps, (append_assoc old.tokens (begin_array ∷ all_tokens so_far.items) (json_tokens w.0)), (all-and so_far.items w.0), (are-and so_far.items ds w.0 d so_far.are (record { is = w.2; same = w.4; nests = w.3 })))

-- a list ends
pub listed : (ds : List Data) (old between new : Written) → Lists ds old between → PutsToken end_array between new → Puts (array (joined ds no_items)) old new
listed ds old between new so_far t = record {
  value = (
    json.array (items_all so_far.items),
    t.tokens ∙ ap (λ ts. ts ++ end_array ∷ []) so_far.tokens ∙ append_assoc old.tokens (begin_array ∷ all_tokens so_far.items) (end_array ∷ []) ∙ ap (λ ts. old.tokens ++ begin_array ∷ ts) (all-end so_far.items),
    ap (option_map array) (are-items so_far.items ds so_far.are),
    omega (arith, are-nested so_far.items ds so_far.are),
    ap json.array (are-blank so_far.items ds so_far.are),
  );
  before = t.before ∙ so_far.before;
}

-- ---- lists of values of one kind

-- one more of them
pub one_of : {A : Type 0} (f : A → Data) (xs : List A) (i : ℕ) (x : A) (old between new : Written) → i < length xs → Lists (map f (take i xs)) old between → Puts (f (get_or xs i x)) between new → Lists (map f (take (i + 1) xs)) old new
one_of f xs i x old between new lt so_far p =
    subst (λ ds. Lists ds old new) (sym (ap (map f) (take_more xs i x lt) ∙ map-append f (take i xs) (get_or xs i x ∷ []))) (one_listed (map f (take i xs)) (f (get_or xs i x)) old between new so_far p)

-- all of them
pub all_of : {A : Type 0} (f : A → Data) (xs : List A) (i : ℕ) (items : Items) (old between new : Written) → length xs ≤ i → joined (map f xs) no_items ≡ items → Lists (map f (take i xs)) old between → PutsToken end_array between new → Puts (array items) old new
all_of f xs i items old between new past is so_far t =
    subst (λ ds. Puts (array ds) old new) (ap (λ ys. joined (map f ys) no_items) (take_all i xs past) ∙ is) (listed (map f (take i xs)) old between new so_far t)
