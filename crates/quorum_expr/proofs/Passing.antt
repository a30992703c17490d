-- Nodes that pass are those of a text that serde_json reads.
use Rattle.std.proofs.Common.{◌≡◌, ℕ, zero, suc, ◌≤◌, List, [], ◌∷◌, ◌++◌, Bool, true, false, ◌&&◌, Option, Some, None, is_some, option_map, option_and_then, refl, sym, ap, ◌∙◌, arith, append_assoc, append-nil, rules, ◌<◌, ◌+◌, length, get_or, drop, map, IsSome}
use Rattle.std.proofs.lemmas.List.{drop_all}
use Rattle.std.proofs.Math.Bool.{and_assoc}
use Rattle.json.specs.Token.{Token}
use Rattle.json.specs.Lex.{tokens}
use Rattle.json.specs.Json as json
use Rattle.json.specs.Json.{Json, value, if_last, document}
use Rattle.json.specs.Tree as tree
use Rattle.json.specs.Tree.{json_tokens, items_tokens, members_tokens}
use Rattle.json.proofs.Nesting.{value-depth}
use Rattle.json.proofs.Found.{Some_inj}
use Rattle.json.specs.Find.{HasValue}
use Rattle.json.specs.Tape.{node_token}
use Rattle.json.specs.declared.tape.Node.{Node}
use Rattle.json.proofs.Unique.Spelling.{tokens-document, value-json_tokens_back}
use Rattle.serde_json.specs.Data.{Data, number, array, object, Items, no_items, item, Members, no_members, put}
use Rattle.serde_json.specs.Read.{number_of, of_json, of_items, of_members, read}
use Rattle.quorum_expr.specs.Placed.{deeper, passes, data_at, or_null}
use Rattle.quorum_expr.proofs.Fits.{value_fits}
use Rattle.quorum_expr.proofs.Converted.{no}
use Rattle.quorum_expr.proofs.Places.{data-begins}
use Rattle.std.proofs.lemmas.Grind.{common_steps}

abbrev mutual
  fits : ℕ → Json → Bool
  fits left json.null = true
  fits left (json.boolean b) = true
  fits left (json.number s) = is_some (number_of s)
  fits left (json.string s) = true
  fits left (json.array js) = deeper left (λ l. fit_items l js)
  fits left (json.object ms) = deeper left (λ l. fit_members l ms)

  fit_items : ℕ → json.Items → Bool
  fit_items left json.no_items = true
  fit_items left (json.item j js) = fits left j && fit_items left js

  fit_members : ℕ → json.Members → Bool
  fit_members left json.no_members = true
  fit_members left (json.member k j ms) = fits left j && fit_members left ms

mutual
  unfolding passes

  passes-json : (j : Json) (left : ℕ) (r : List Token) → passes left (json_tokens j ++ r) ≡ (fits left j && passes left r)
  passes-json json.null left r = refl
  passes-json (json.boolean b) left r = refl
  passes-json (json.number s) left r = refl
  passes-json (json.string s) left r = refl
  passes-json (json.array js) zero r = refl
  passes-json (json.array js) (suc left) r = passes-items js left r
  passes-json (json.object ms) zero r = refl
  passes-json (json.object ms) (suc left) r = passes-members ms left r

  passes-items : (js : json.Items) (left : ℕ) (r : List Token) → passes left (items_tokens js ++ r) ≡ (fit_items left js && passes (suc left) r)
  passes-items json.no_items left r = refl
  passes-items (json.item j js) left r =
      ap (passes left) (append_assoc (json_tokens j) (items_tokens js) r) ∙ passes-json j left (items_tokens js ++ r) ∙ ap (λ b. fits left j && b) (passes-items js left r) ∙ sym (and_assoc (fits left j) (fit_items left js) (passes (suc left) r))

  passes-members : (ms : json.Members) (left : ℕ) (r : List Token) → passes left (members_tokens ms ++ r) ≡ (fit_members left ms && passes (suc left) r)
  passes-members json.no_members left r = refl
  passes-members (json.member k j ms) left r =
      ap (passes left) (append_assoc (json_tokens j) (members_tokens ms) r) ∙ passes-json j left (members_tokens ms ++ r) ∙ ap (λ b. fits left j && b) (passes-members ms left r) ∙ sym (and_assoc (fits left j) (fit_members left ms) (passes (suc left) r))

both : (a b : Bool) → (a && b) ≡ true → (a ≡ true) × (b ≡ true)
both true b h = (refl, h)
both false b h = absurd (cc)

some : {A : Type 0} (o : Option A) → is_some o ≡ true → (a : A) × (o ≡ Some a)
some None h = absurd (cc)
some (Some a) h = (a, refl)

none : {A : Type 0} (o : Option A) → is_some o ≡ false → o ≡ None
none None h = refl
none (Some a) h = absurd (cc)

-- ---- what passes is converted

record Read (left : ℕ) (j : Json) : Type 0 where
  within : tree.depth j ≤ left
  d : Data
  is : of_json j ≡ Some d

record ItemsRead (left : ℕ) (js : json.Items) : Type 0 where
  within : tree.items_depth js ≤ left
  ds : Items
  is : of_items js ≡ Some ds

record MembersRead (left : ℕ) (ms : json.Members) : Type 0 where
  within : tree.members_depth ms ≤ left
  es : Members → Members
  is : (found : Members) → of_members ms found ≡ Some (es found)

mutual
  read-json : (j : Json) (left : ℕ) → fits left j ≡ true → Read left j
  read-json json.null left h = record { within = omega arith; d = Data.null; is = refl }
  read-json (json.boolean b) left h = record { within = omega arith; d = Data.boolean b; is = refl }
  read-json (json.number s) left h = let n = some (number_of s) h in record { within = omega arith; d = number n.0; is = ap (option_map number) n.1 }
  read-json (json.string s) left h = record { within = omega arith; d = Data.string s; is = refl }
  read-json (json.array js) zero h = absurd (cc)
  read-json (json.array js) (suc left) h = let x = read-items js left h in record { within = omega (arith, x.within); d = array x.ds; is = ap (option_map array) x.is }
  read-json (json.object ms) zero h = absurd (cc)
  read-json (json.object ms) (suc left) h = let x = read-members ms left h in record { within = omega (arith, x.within); d = object (x.es no_members); is = ap (option_map object) (x.is no_members) }

  read-items : (js : json.Items) (left : ℕ) → fit_items left js ≡ true → ItemsRead left js
  read-items json.no_items left h = record { within = omega arith; ds = no_items; is = refl }
  read-items (json.item j js) left h =
      let b = both (fits left j) (fit_items left js) h in
      let x = read-json j left b.0 in
      let y = read-items js left b.1 in
      record { within = omega (arith, x.within, y.within); ds = item x.d y.ds; is = ap (option_and_then (λ d. option_map (item d) (of_items js))) x.is ∙ ap (option_map (item x.d)) y.is }

  read-members : (ms : json.Members) (left : ℕ) → fit_members left ms ≡ true → MembersRead left ms
  read-members json.no_members left h = record { within = omega arith; es = λ found. found; is = λ found. refl }
  read-members (json.member k j ms) left h =
      let b = both (fits left j) (fit_members left ms) h in
      let x = read-json j left b.0 in
      let y = read-members ms left b.1 in
      record { within = omega (arith, x.within, y.within); es = λ found. y.es (put k x.d found); is = λ found. ap (option_and_then (λ d. of_members ms (put k d found))) x.is ∙ y.is (put k x.d found) }

-- ---- what doesn't pass isn't

never_item : (o : Option Data) → option_and_then (λ d. option_map (item d) None) o ≡ None
never_item None = refl
never_item (Some d) = refl

never_member : (o : Option Data) (f : Data → Option Members) → ((d : Data) → f d ≡ None) → option_and_then f o ≡ None
never_member None f h = refl
never_member (Some d) f h = h d

item_refused : (b c : Bool) (o : Option Data) (os : Option Items) → (b && c) ≡ false → (b ≡ false → o ≡ None) → (c ≡ false → os ≡ None) → option_and_then (λ d. option_map (item d) os) o ≡ None
item_refused false c o os h one others = ap (option_and_then (λ d. option_map (item d) os)) (one refl)
item_refused true c o os h one others = ap (λ x. option_and_then (λ d. option_map (item d) x) o) (others h) ∙ never_item o

member_refused : (b c : Bool) (o : Option Data) (f : Data → Option Members) → (b && c) ≡ false → (b ≡ false → o ≡ None) → (c ≡ false → (d : Data) → f d ≡ None) → option_and_then f o ≡ None
member_refused false c o f h one others = ap (option_and_then f) (one refl)
member_refused true c o f h one others = never_member o f (others h)

mutual
  refused-json : (j : Json) (left : ℕ) → fits left j ≡ false → tree.depth j ≤ left → of_json j ≡ None
  refused-json json.null left h few = absurd (cc)
  refused-json (json.boolean b) left h few = absurd (cc)
  refused-json (json.number s) left h few = ap (option_map number) (none (number_of s) h)
  refused-json (json.string s) left h few = absurd (cc)
  refused-json (json.array js) zero h few = absurd (omega (arith, few))
  refused-json (json.array js) (suc left) h few = ap (option_map array) (refused-items js left h (omega (arith, few)))
  refused-json (json.object ms) zero h few = absurd (omega (arith, few))
  refused-json (json.object ms) (suc left) h few = ap (option_map object) (refused-members ms no_members left h (omega (arith, few)))

  refused-items : (js : json.Items) (left : ℕ) → fit_items left js ≡ false → tree.items_depth js ≤ left → of_items js ≡ None
  refused-items json.no_items left h few = absurd (cc)
  refused-items (json.item j js) left h few =
      item_refused (fits left j) (fit_items left js) (of_json j) (of_items js) h (λ e. refused-json j left e (omega (arith, few))) (λ e. refused-items js left e (omega (arith, few)))

  refused-members : (ms : json.Members) (found : Members) (left : ℕ) → fit_members left ms ≡ false → tree.members_depth ms ≤ left → of_members ms found ≡ None
  refused-members json.no_members found left h few = absurd (cc)
  refused-members (json.member k j ms) found left h few =
      member_refused (fits left j) (fit_members left ms) (of_json j) (λ d. of_members ms (put k d found)) h (λ e. refused-json j left e (omega (arith, few))) (λ e d. refused-members ms (put k d found) left e (omega (arith, few)))

-- ---- a place where a value begins

pub passes_here : (ts : List Token) → HasValue ts → passes 127 ts ≡ true → is_some (data_at ts) ≡ true
passes_here ts (j, (depth, rest, read)) pass =
    let spelled : ts ≡ json_tokens j ++ rest = value-json_tokens_back depth ts rest j read in
    let whole : (fits 127 j && passes 127 rest) ≡ true = sym (passes-json j 127 rest) ∙ ap (passes 127) (sym spelled) ∙ pass in
    let x = read-json j 127 (both _ _ whole).0 in
    ap is_some (data-begins ts j x.d (depth, rest, read) x.within x.is)

-- ---- a whole text

last : (o : Option (Json × List Token)) (j : Json) → option_and_then (λ p. if_last p.0 p.1) o ≡ Some j → o ≡ Some (j, [])
last None j e = no j e
last (Some (i, [])) j e = let same : i ≡ j = cc in ap (λ x. Some (x, [])) same
last (Some (i, t ∷ ts)) j e = no j e

alone : (b : Bool) → (b && true) ≡ b
alone true = refl
alone false = refl

passes-whole : (j : Json) → passes 127 (json_tokens j) ≡ fits 127 j
unfolding passes
passes-whole j = ap (passes 127) (sym (append-nil (json_tokens j))) ∙ passes-json j 127 [] ∙ alone (fits 127 j)

there : (o : Option Json) → IsSome o → (j : Json) × (o ≡ Some j)
there None h = absurd (search rules)
there (Some j) h = (j, refl)

pub read-passes : (text : List ℕ) (tape : List Token) → tape ≡ tokens text → IsSome (document text) → passes 127 tape ≡ true → Some (or_null (data_at tape)) ≡ read text
read-passes text tape is h pass =
    let j = there (document text) h in
    let x = read-json j.0 127 (sym (passes-whole j.0) ∙ ap (passes 127) (sym (tokens-document text j.0 j.1)) ∙ ap (passes 127) (sym is) ∙ pass) in
    let whole : value 128 (tokens text) ≡ Some (j.0, []) = last (value 128 (tokens text)) j.0 j.1 in
    let found : data_at (tokens text) ≡ Some x.d = data-begins (tokens text) j.0 x.d (128, [], whole) x.within x.is in
    let again : value 127 (tokens text) ≡ Some (j.0, []) = value_fits 128 127 (tokens text) [] j.0 whole x.within in
    ap (λ t. Some (or_null (data_at t))) is ∙ ap (λ o. Some (or_null o)) found ∙ sym (ap (λ o. option_and_then of_json (option_and_then (λ p. if_last p.0 p.1) o)) again ∙ x.is)

converted_none : (i : Json) (r : List Token) → of_json i ≡ None → option_and_then of_json (if_last i r) ≡ None
converted_none i [] h = h
converted_none i (t ∷ r) h = refl

refuses : (ts : List Token) (j : Json) (o : Option (Json × List Token)) → value 128 ts ≡ Some (j, []) → fits 127 j ≡ false → value 127 ts ≡ o → option_and_then of_json (option_and_then (λ p. if_last p.0 p.1) o) ≡ None
refuses ts j None whole h e = refl
refuses ts j (Some (i, r)) whole h e =
    let few : tree.depth i ≤ 127 = value-depth 127 ts r i e in
    let again : value 128 ts ≡ Some (i, r) = value_fits 127 128 ts r i e (omega (arith, few)) in
    let both : ◌≡◌ {A = Option (Json × List Token)} (Some (i, r)) (Some (j, [])) = sym again ∙ whole in
    let same : j ≡ i = ap (λ p. p.0) (Some_inj _ _ (sym both)) in
    converted_none i r (refused-json i 127 (ap (fits 127) (sym same) ∙ h) few)

pub read-refused : (text : List ℕ) (tape : List Token) → tape ≡ tokens text → IsSome (document text) → passes 127 tape ≡ false → None ≡ read text
read-refused text tape is h pass =
    let j = there (document text) h in
    let whole : value 128 (tokens text) ≡ Some (j.0, []) = last (value 128 (tokens text)) j.0 j.1 in
    sym (refuses (tokens text) j.0 (value 127 (tokens text)) whole (sym (passes-whole j.0) ∙ ap (passes 127) (sym (tokens-document text j.0 j.1)) ∙ ap (passes 127) (sym is) ∙ pass) refl)

no_document : (o p : Option (Json × List Token)) → ((x : Json × List Token) → p ≡ Some x → o ≡ Some x) → option_and_then (λ q. if_last q.0 q.1) o ≡ None → option_and_then of_json (option_and_then (λ q. if_last q.0 q.1) p) ≡ None
no_document o None same h = refl
no_document o (Some x) same h = ap (option_and_then of_json) (sym (ap (option_and_then (λ q. if_last q.0 q.1)) (same x refl)) ∙ h)

-- a text that isn't JSON is no text that serde_json reads
pub read-invalid : (text : List ℕ) → document text ≡ None → read text ≡ None
read-invalid text h =
    no_document (value 128 (tokens text)) (value 127 (tokens text)) (λ x e. let few : tree.depth x.0 ≤ 127 = value-depth 127 (tokens text) x.1 x.0 e in value_fits 127 128 (tokens text) x.1 x.0 e (omega (arith, few))) h

-- ---- node by node

pub next_node : (left i : ℕ) (nodes : List Node) (d : Node) → i < length nodes → passes left (map node_token (drop i nodes)) ≡ passes left (node_token (get_or nodes i d) ∷ map node_token (drop (i + 1) nodes))
next_node left i nodes d h = grind (arith, common_steps)

pub no_node : (left i : ℕ) (nodes : List Node) → length nodes ≤ i → passes left (map node_token (drop i nodes)) ≡ true
unfolding passes
no_node left i nodes h = ap (λ ns. passes left (map node_token ns)) (drop_all i nodes h)
