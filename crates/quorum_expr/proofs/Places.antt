-- What is found at a place of a tape is what serde_json reads there.
use Rattle.std.proofs.Common.{◌≡◌, ℕ, ◌<◌, ◌≤◌, List, ◌∷◌, length, Bool, true, false, Option, Some, None, is_some, option_map, option_and_then, refl, sym, ap, ◌∙◌, subst, arith}
use Rattle.std.specs.Prelude.{MatchOption, IfNone, bytes_eq, ⊤, min}
use Rattle.json.specs.Token.{Token}
use Rattle.json.specs.Json as json
use Rattle.json.specs.Json.{Json, value, items, parse_map}
use Rattle.json.specs.Tree as tree
use Rattle.json.specs.Find as find
use Rattle.json.specs.Find.{BeginsWith, InItems, InMembers, NextItem, Finds}
use Rattle.json.proofs.Grammar.{value-begin_array}
use Rattle.json.proofs.Nesting.{value-depth}
use Rattle.serde_json.specs.Data.{Data, Items, no_items, item, Members, no_members}
use Rattle.serde_json.specs.Events.{members_len}
use Rattle.serde_json.specs.Find as sought
use Rattle.serde_json.specs.Read.{number_of, of_json, of_items, of_members}
use Rattle.quorum_expr.specs.Nodes.{says, keys_up_to}
use Rattle.quorum_expr.specs.Placed.{data_at, items_at, or_null, or_none}
use Rattle.quorum_expr.proofs.Fits.{value_fits, items_fit}
use Rattle.quorum_expr.proofs.Converted.{mapped, is_null-of, as_str-of, as_number-of, is_number-of, as_array-of, as_object-of, item-of, get-of, get_held}
use Rattle.std.proofs.lemmas.Grind.{common_steps}

-- ---- values

pub record Placed (ts : List Token) : Type 0 where
  pub found : Json
  pub after : List Token
  pub read : value 127 ts ≡ Some (found, after)
  pub d : Data
  pub is : of_json found ≡ Some d

with_value : (ts : List Token) (p : Json × List Token) (o : Option Data) → value 127 ts ≡ Some p → of_json p.0 ≡ o → is_some o ≡ true → Placed ts
with_value ts p None e f h = absurd (cc)
with_value ts p (Some d) e f h = record { found = p.0; after = p.1; read = e; d = d; is = f }

with_read : (ts : List Token) (o : Option (Json × List Token)) → value 127 ts ≡ o → is_some (option_and_then (λ p. of_json p.0) o) ≡ true → Placed ts
with_read ts None e h = absurd (cc)
with_read ts (Some p) e h = with_value ts p (of_json p.0) e refl h

pub placed : (ts : List Token) → is_some (data_at ts) ≡ true → Placed ts
unfolding data_at
placed ts h = with_read ts (value 127 ts) refl h

pub data-placed : (ts : List Token) (x : Placed ts) → data_at ts ≡ Some x.d
unfolding data_at
data-placed ts x = ap (option_and_then (λ p. of_json p.0)) x.read ∙ x.is

begins : (ts : List Token) (x : Placed ts) → BeginsWith ts x.found
begins ts x = (127, x.after, x.read)

-- a value that begins there and isn't too deep is that of the place
pub data-begins : (ts : List Token) (j : Json) (d : Data) → BeginsWith ts j → tree.depth j ≤ 127 → of_json j ≡ Some d → data_at ts ≡ Some d
unfolding data_at
data-begins ts j d h few is = ap (option_and_then (λ p. of_json p.0)) (value_fits h.0 127 ts h.1 j h.2 few) ∙ is

seen : {A : Type 0} (f : Data → A) (ts : List Token) (x : Placed ts) → f x.d ≡ f (or_null (data_at ts))
seen f ts x = ap (λ o. f (or_null o)) (sym (data-placed ts x))

pub null_here : (ts : List Token) (b : Bool) → is_some (data_at ts) ≡ true → ((j : Json) → BeginsWith ts j → b ≡ find.is_null j) → b ≡ is_some (sought.as_null (or_null (data_at ts)))
null_here ts b h all = let x = placed ts h in all x.found (begins ts x) ∙ is_null-of x.found x.d x.is ∙ seen (λ d. is_some (sought.as_null d)) ts x

pub str_here : (ts : List Token) (r : Option (List ℕ)) → is_some (data_at ts) ≡ true → ((j : Json) → BeginsWith ts j → r ≡ find.as_str j) → r ≡ sought.as_str (or_null (data_at ts))
str_here ts r h all = let x = placed ts h in all x.found (begins ts x) ∙ as_str-of x.found x.d x.is ∙ seen sought.as_str ts x

pub number_here : (ts : List Token) (r : Option (List ℕ)) → is_some (data_at ts) ≡ true → ((j : Json) → BeginsWith ts j → r ≡ find.as_number j) → option_and_then number_of r ≡ sought.as_number (or_null (data_at ts))
number_here ts r h all = let x = placed ts h in ap (option_and_then number_of) (all x.found (begins ts x)) ∙ as_number-of x.found x.d x.is ∙ seen sought.as_number ts x

pub is_number_here : (ts : List Token) (r : Option (List ℕ)) → is_some (data_at ts) ≡ true → ((j : Json) → BeginsWith ts j → r ≡ find.as_number j) → is_some r ≡ is_some (sought.as_number (or_null (data_at ts)))
is_number_here ts r h all = let x = placed ts h in ap is_some (all x.found (begins ts x)) ∙ is_number-of x.found x.d x.is ∙ seen (λ d. is_some (sought.as_number d)) ts x

pub says-some : (text s : List ℕ) (d : Data) → sought.as_str d ≡ Some s → says text d ≡ bytes_eq s text
says-some text s Data.null h = absurd (cc)
says-some text s (Data.boolean b) h = absurd (cc)
says-some text s (Data.number n) h = absurd (cc)
says-some text s (Data.string t) h = let same : t ≡ s = cc in ap (λ u. bytes_eq u text) same
says-some text s (Data.array ds) h = absurd (cc)
says-some text s (Data.object ms) h = absurd (cc)

pub says-none : (text : List ℕ) (d : Data) → sought.as_str d ≡ None → says text d ≡ false
says-none text Data.null h = refl
says-none text (Data.boolean b) h = refl
says-none text (Data.number n) h = refl
says-none text (Data.string t) h = absurd (cc)
says-none text (Data.array ds) h = refl
says-none text (Data.object ms) h = refl

-- ---- a look-up

-- there is nothing, or a place with the value that was looked for
abbrev pub Looked : Option (List Token) → Option Data → Type 0
Looked r o = MatchOption r (o ≡ None) (λ ts. (d : Data) × (data_at ts ≡ Some d) × (o ≡ Some d))

looked : (key : List ℕ) (ts : List Token) (x : Placed ts) (r : Option (List Token)) → Finds r (find.get key x.found) → Looked r (sought.get key x.d)
looked key ts x None f = get-of key x.found x.d x.is ∙ ap (option_and_then of_json) f
looked key ts x (Some at) f = grind (arith, common_steps, get_held, value-depth, data-begins, get-of, option_and_then, (get_held key x.found x.d x.is f.0 f.1), (value-depth 127 ts x.after x.found x.read), (get-of key x.found x.d x.is), (option_and_then of_json))

pub get_here : (key : List ℕ) (ts : List Token) (r : Option (List Token)) → is_some (data_at ts) ≡ true → ((j : Json) → BeginsWith ts j → Finds r (find.get key j)) → Looked r (sought.get key (or_null (data_at ts)))
get_here key ts r h all = let x = placed ts h in subst (Looked r) (seen (sought.get key) ts x) (looked key ts x r (all x.found (begins ts x)))

-- ---- items

pub record PlacedItems (ts : List Token) : Type 0 where
  pub found : json.Items
  pub after : List Token
  pub read : items (value 127) (length ts) ts ≡ Some (found, after)
  pub ds : Items
  pub is : of_items found ≡ Some ds

with_items : (ts : List Token) (p : json.Items × List Token) (o : Option Items) → items (value 127) (length ts) ts ≡ Some p → of_items p.0 ≡ o → is_some o ≡ true → PlacedItems ts
with_items ts p None e f h = absurd (cc)
with_items ts p (Some ds) e f h = record { found = p.0; after = p.1; read = e; ds = ds; is = f }

with_items_read : (ts : List Token) (o : Option (json.Items × List Token)) → items (value 127) (length ts) ts ≡ o → is_some (option_and_then (λ p. of_items p.0) o) ≡ true → PlacedItems ts
with_items_read ts None e h = absurd (cc)
with_items_read ts (Some p) e h = with_items ts p (of_items p.0) e refl h

pub items_placed : (ts : List Token) → is_some (items_at ts) ≡ true → PlacedItems ts
unfolding items_at
items_placed ts h = with_items_read ts (items (value 127) (length ts) ts) refl h

pub items-placed : (ts : List Token) (x : PlacedItems ts) → items_at ts ≡ Some x.ds
unfolding items_at
items-placed ts x = ap (option_and_then (λ p. of_items p.0)) x.read ∙ x.is

pub items-begin : (ts : List Token) (js : json.Items) (ds : Items) → InItems ts js → tree.items_depth js ≤ 127 → of_items js ≡ Some ds → items_at ts ≡ Some ds
unfolding items_at
items-begin ts js ds h few is = ap (option_and_then (λ p. of_items p.0)) (items_fit h.0 127 h.1 ts h.2 js h.3 few) ∙ is

few_items : (ts : List Token) (x : PlacedItems ts) → tree.items_depth x.found ≤ 127
few_items ts x =
    let some : 0 < 128 = omega arith in
    let whole : value 128 (Token.begin_array ∷ ts) ≡ Some (json.array x.found, x.after) = value-begin_array 128 ts some ∙ ap (parse_map json.array) x.read in
    let few : tree.depth (json.array x.found) ≤ 128 = value-depth 128 (Token.begin_array ∷ ts) x.after (json.array x.found) whole in
    omega (arith, few)

abbrev pub Listed : Option (List Token) → Option Items → Type 0
Listed r o = MatchOption r (o ≡ None) (λ ts. (ds : Items) × (items_at ts ≡ Some ds) × (o ≡ Some ds))

inside : (ts rest : List Token) (x : Placed ts) (js : json.Items) → x.found ≡ json.array js → InItems rest js → Listed (Some rest) (sought.as_array x.d)
inside ts rest x js same h = grind (arith, common_steps, Some, mapped, value-depth, items-begin)

listed : (ts : List Token) (x : Placed ts) (r : Option (List Token)) → MatchOption r (find.as_array x.found ≡ None) (λ rest. (js : json.Items) × (x.found ≡ json.array js) × InItems rest js) → Listed r (sought.as_array x.d)
listed ts x None h = sym (as_array-of x.found x.d x.is) ∙ ap (option_and_then of_items) h
listed ts x (Some rest) h = inside ts rest x h.0 h.1 h.2

pub items_here : (ts : List Token) (r : Option (List Token)) → is_some (data_at ts) ≡ true → ((j : Json) → BeginsWith ts j → MatchOption r (find.as_array j ≡ None) (λ rest. (js : json.Items) × (j ≡ json.array js) × InItems rest js))
    → Listed r (sought.as_array (or_null (data_at ts)))
items_here ts r h all = let x = placed ts h in subst (Listed r) (seen sought.as_array ts x) (listed ts x r (all x.found (begins ts x)))

-- ---- one item after another

-- there is none, or a place with the first, and the others
abbrev pub Taken : Option (List Token) → Items → List Token → Type 0
Taken r ds new = MatchOption r (ds ≡ no_items) (λ ts. (d : Data) × (es : Items) × (data_at ts ≡ Some d) × (items_at new ≡ Some es) × (ds ≡ item d es))

taken : (old new : List Token) (x : PlacedItems old) (r : Option (List Token)) → MatchOption r (x.found ≡ json.no_items) (λ ts. (j : Json) × (rest : json.Items) × (x.found ≡ json.item j rest) × BeginsWith ts j × InItems new rest) → Taken r x.ds new
taken old new x None h = grind (arith, common_steps)
taken old new x (Some at) h = grind (arith, common_steps, Some, item-of, few_items, data-begins, items-begin, (Some x.ds), (few_items old x))

pub next_here : (old new : List Token) (r : Option (List Token)) → is_some (items_at old) ≡ true → NextItem old r new → Taken r (or_none (items_at old)) new
next_here old new r h next =
    let x = items_placed old h in
    subst (λ ds. Taken r ds new) (ap or_none (sym (items-placed old x))) (taken old new x r (next x.found (127, length old, x.after, x.read)))

-- whether there was one or not, the others can be read
pub next_stays : (old new : List Token) (r : Option (List Token)) → is_some (items_at old) ≡ true → NextItem old r new → IfNone r (new ≡ old) → is_some (items_at new) ≡ true
next_stays old new None h next stays = ap (λ ts. is_some (items_at ts)) stays ∙ h
next_stays old new (Some at) h next stays = let x = next_here old new (Some at) h next in ap is_some x.3

-- ---- keys

-- the count of the members' keys, where there are members
abbrev pub Counted : ℕ → Option (List Token) → Option ℕ → Type 0
Counted most None None = ⊤
Counted most None (Some n) = ⊥
Counted most (Some rest) None = ⊥
Counted most (Some rest) (Some n) = (ms : json.Members) (es : Members) → InMembers rest ms → of_members ms no_members ≡ Some es → n ≡ min (members_len es) most

keys_of : (ts : List Token) (most : ℕ) (x : Placed ts) (r : Option (List Token)) (n : Option ℕ) → MatchOption r (find.as_object x.found ≡ None) (λ rest. (ms : json.Members) × (x.found ≡ json.object ms) × InMembers rest ms) → Counted most r n → n ≡ keys_up_to most x.d
keys_of ts most x None None h c = sym (ap (option_map (λ ms. min (members_len ms) most)) (sym (as_object-of x.found x.d x.is) ∙ ap (option_and_then (λ ms. of_members ms no_members)) h))
keys_of ts most x None (Some n) h c = absurd c
keys_of ts most x (Some rest) None h c = absurd c
keys_of ts most x (Some rest) (Some n) h c = grind (arith, common_steps)

pub keys_here : (ts : List Token) (most : ℕ) (r : Option (List Token)) (n : Option ℕ) → is_some (data_at ts) ≡ true → ((j : Json) → BeginsWith ts j → MatchOption r (find.as_object j ≡ None) (λ rest. (ms : json.Members) × (j ≡ json.object ms) × InMembers rest ms)) → Counted most r n → n ≡ keys_up_to most (or_null (data_at ts))
keys_here ts most r n h all c = let x = placed ts h in keys_of ts most x r n (all x.found (begins ts x)) c ∙ seen (keys_up_to most) ts x
