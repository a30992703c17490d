-- The objects of certificates, put together from their keys and values.
use Rattle.std.proofs.Common.{◌≡◌, ℕ, ◌∙◌, List, map, refl, ap, sym, subst, codes, Vec, Box}
use Rattle.json.specs.Token.{Token, begin_object, end_object}
use Rattle.json.specs.Written.{Written}
use Rattle.serde_json.specs.Data.{Data, string, array, object, Members, no_members, member, put}
use Rattle.refutation.specs.declared.Side.{Side}
use Rattle.refutation.specs.declared.Refutation.{Refutation}
use Rattle.refutation.specs.declared.Refutation.TheVariants.{Dead, Clash, Open, Pick, Match, Split}
use Rattle.refutation.specs.Common.{branches_of, rule_of, side_text, number_data, numbers_data, pairs_data, dead_data, clash_data, open_data, pick_data, match_data, split_data, certificate_data, branches_data}
use Rattle.refutation.proofs.Rules.{rule_of-Dead, rule_of-Clash, rule_of-Open, rule_of-Pick, rule_of-Match, rule_of-Split}
use Rattle.plan.specs.Certificates.{pick_members, match_members, OpensTo, PutsBetween, PutsLast}
use Rattle.plan.specs.Heads.{side_members, item_members}
use Rattle.plan.specs.Puts.{Puts, PutsToken, PutsMember, Opens}
use Rattle.plan.specs.Rules.{rule_data, rules_data}
use Rattle.plan.proofs.Putting.{members_and, opened, one_more, closed}
use Rattle.std.proofs.Common.{rules}

-- a key and a value
pub with_value : (k : List ℕ) (d : Data) (a b c : Written) → PutsToken (Token.key k) a b → Puts d b c → PutsMember k d a c
with_value k d a b c key value = record { between = b; key = key; value = value }

-- members so far, and one more key
pub with_key : (found : Members) (k : List ℕ) (o a n : Written) → Opens found o a → PutsToken (Token.key k) a n → OpensTo found k o n
with_key found k o a n members key = record { between = a; members = members; key = key }

-- a member, and the end
pub member_and_end : (k : List ℕ) (d : Data) (o a n : Written) → PutsMember k d o a → PutsToken end_object a n → PutsLast k d o n
member_and_end k d o a n last end = record { between = a; last = last; end = end }

-- ---- the members before the branches

-- an item on a side
pub side_opens : (name : List ℕ) (side : Side) (item : ℕ) (o a b c d : Written) → PutsToken begin_object o a → PutsMember (codes "item") (number_data item) a b → PutsMember (codes "rule") (string name) b c → PutsMember (codes "side") (string (side_text side)) c d
    → Opens (side_members name side item) o d
side_opens name side item o a b c d begun one two three =
    one_more (member (codes "item") (number_data item) (member (codes "rule") (string name) no_members)) (codes "side") (string (side_text side)) o c d refl
    (one_more (member (codes "item") (number_data item) no_members) (codes "rule") (string name) o b c refl
    (one_more no_members (codes "item") (number_data item) o a b refl (opened o a begun) one) two) three

-- an item on either side
pub items_open : (name : List ℕ) (left right : ℕ) (o a b c d : Written) → PutsToken begin_object o a → PutsMember (codes "left") (number_data left) a b → PutsMember (codes "right") (number_data right) b c → PutsMember (codes "rule") (string name) c d
    → Opens (item_members name left right) o d
items_open name left right o a b c d begun one two three =
    one_more (member (codes "left") (number_data left) (member (codes "right") (number_data right) no_members)) (codes "rule") (string name) o c d refl
    (one_more (member (codes "left") (number_data left) no_members) (codes "right") (number_data right) o b c refl
    (one_more no_members (codes "left") (number_data left) o a b refl (opened o a begun) one) two) three

-- an item, and some of its children
pub pick_opens : (side : Side) (item : ℕ) (children : List ℕ) (o a b c d e : Written) → PutsToken begin_object o a → PutsMember (codes "children") (array (numbers_data children)) a b → PutsMember (codes "item") (number_data item) b c
    → PutsMember (codes "rule") (string (codes "pick")) c d → PutsMember (codes "side") (string (side_text side)) d e → Opens (pick_members side item children) o e
pick_opens side item children o a b c d e begun one two three four =
    let first = member (codes "children") (array (numbers_data children)) no_members in
    let second = member (codes "children") (array (numbers_data children)) (member (codes "item") (number_data item) no_members) in
    let third = member (codes "children") (array (numbers_data children)) (member (codes "item") (number_data item) (member (codes "rule") (string (codes "pick")) no_members)) in
    one_more third (codes "side") (string (side_text side)) o d e refl
    (one_more second (codes "rule") (string (codes "pick")) o c d refl
    (one_more first (codes "item") (number_data item) o b c refl
    (one_more no_members (codes "children") (array (numbers_data children)) o a b refl (opened o a begun) one) two) three) four

-- two items, and pairs of their children
pub match_opens : (left right : ℕ) (pairs : List (ℕ × ℕ)) (o a b c d e : Written) → PutsToken begin_object o a → PutsMember (codes "left") (number_data left) a b → PutsMember (codes "pairs") (array (pairs_data pairs)) b c
    → PutsMember (codes "right") (number_data right) c d → PutsMember (codes "rule") (string (codes "match")) d e → Opens (match_members left right pairs) o e
match_opens left right pairs o a b c d e begun one two three four =
    let first = member (codes "left") (number_data left) no_members in
    let second = member (codes "left") (number_data left) (member (codes "pairs") (array (pairs_data pairs)) no_members) in
    let third = member (codes "left") (number_data left) (member (codes "pairs") (array (pairs_data pairs)) (member (codes "right") (number_data right) no_members)) in
    one_more third (codes "rule") (string (codes "match")) o d e refl
    (one_more second (codes "right") (number_data right) o c d refl
    (one_more first (codes "pairs") (array (pairs_data pairs)) o b c refl
    (one_more no_members (codes "left") (number_data left) o a b refl (opened o a begun) one) two) three) four

-- ---- whole rules

pub dead_put : {A : Type 0} (rule : Refutation A) (side : Side) (item : ℕ) (o n : Written) → rule ≡ Dead side item → Puts (dead_data side item) o n → Puts (rule_data rule) o n
dead_put {A} rule side item o n is value = subst (λ d. Puts d o n) (sym (ap rule_data is ∙ ap certificate_data (rule_of-Dead A side item))) value

pub clash_put : {A : Type 0} (rule : Refutation A) (left right : ℕ) (o n : Written) → rule ≡ Clash left right → Puts (clash_data left right) o n → Puts (rule_data rule) o n
clash_put {A} rule left right o n is value = subst (λ d. Puts d o n) (sym (ap rule_data is ∙ ap certificate_data (rule_of-Clash A left right))) value

-- The branches of a rule, which come last, and its end.
last_put : (found : Members) (k : List ℕ) (d : Data) (o a b n : Written) → put k d found ≡ members_and found k d → OpensTo found k o a → Puts d a b → PutsToken end_object b n → Puts (object (members_and found k d)) o n
last_put found k d o a b n last head value end = search (rules, closed, members_and, one_more, with_value)

pub open_put : {A : Type 0} (rule : Refutation A) (side : Side) (item : ℕ) (then : Box (Refutation A) A) (x : Refutation A) (o a b n : Written) → rule ≡ Open side item then → x ≡ then.value
    → OpensTo (side_members (codes "open") side item) (codes "then") o a → Puts (rule_data x) a b → PutsToken end_object b n → Puts (rule_data rule) o n
open_put rule side item then x o a b n is same head value end =
    let spelt : open_data side item (rule_data x) ≡ rule_data rule = ap (λ y. open_data side item (rule_data y)) same ∙ sym (ap rule_data is ∙ ap certificate_data (rule_of-Open side item then)) in
    subst (λ d. Puts d o n) spelt (last_put (side_members (codes "open") side item) (codes "then") (rule_data x) o a b n refl head value end)

pub pick_put : {A : Type 0} (rule : Refutation A) (side : Side) (item : ℕ) (children : Vec ℕ A) (then : Vec (Refutation A) A) (numbers : List ℕ) (branches : List (Refutation A)) (o a b n : Written) → rule ≡ Pick side item children then → numbers ≡ children.items → branches ≡ then.items
    → OpensTo (pick_members side item numbers) (codes "then") o a → Puts (rules_data branches) a b → PutsToken end_object b n → Puts (rule_data rule) o n
pick_put rule side item children then numbers branches o a b n is listed_ same head value end =
    let spelt : pick_data side item (numbers_data numbers) (branches_data (branches_of (map rule_of branches))) ≡ rule_data rule =
    (λ i. pick_data side item (numbers_data (listed_ i)) (branches_data (branches_of (map rule_of (same i))))) ∙ sym (ap rule_data is ∙ ap certificate_data (rule_of-Pick side item children then)) in
    subst (λ d. Puts d o n) spelt (last_put (pick_members side item numbers) (codes "then") (rules_data branches) o a b n refl head value end)

pub match_put : {A : Type 0} (rule : Refutation A) (left right : ℕ) (pairs : Vec (ℕ × ℕ) A) (then : Vec (Refutation A) A) (numbers : List (ℕ × ℕ)) (branches : List (Refutation A)) (o a b n : Written) → rule ≡ Match left right pairs then → numbers ≡ pairs.items → branches ≡ then.items
    → OpensTo (match_members left right numbers) (codes "then") o a → Puts (rules_data branches) a b → PutsToken end_object b n → Puts (rule_data rule) o n
match_put rule left right pairs then numbers branches o a b n is listed_ same head value end =
    let spelt : match_data left right (pairs_data numbers) (branches_data (branches_of (map rule_of branches))) ≡ rule_data rule =
    (λ i. match_data left right (pairs_data (listed_ i)) (branches_data (branches_of (map rule_of (same i))))) ∙ sym (ap rule_data is ∙ ap certificate_data (rule_of-Match left right pairs then)) in
    subst (λ d. Puts d o n) spelt (last_put (match_members left right numbers) (codes "then") (rules_data branches) o a b n refl head value end)

pub split_put : {A : Type 0} (rule : Refutation A) (member_ : ℕ) (left right : Box (Refutation A) A) (x y : Refutation A) (o a b c d n : Written) → rule ≡ Split member_ left right → x ≡ left.value → y ≡ right.value
    → OpensTo no_members (codes "left") o a → Puts (rule_data x) a b → PutsBetween (codes "member") (number_data member_) (codes "right") b c → Puts (rule_data y) c d → PutsLast (codes "rule") (string (codes "split")) d n → Puts (rule_data rule) o n
split_put rule member_ left right x y o a b c d n is one other head first middle second last =
    let spelt : split_data member_ (rule_data x) (rule_data y) ≡ rule_data rule =
    (λ i. split_data member_ (rule_data (one i)) (rule_data (other i))) ∙ sym (ap rule_data is ∙ ap certificate_data (rule_of-Split member_ left right)) in
    let with_left = member (codes "left") (rule_data x) no_members in
    let with_member = member (codes "left") (rule_data x) (member (codes "member") (number_data member_) no_members) in
    let with_right = member (codes "left") (rule_data x) (member (codes "member") (number_data member_) (member (codes "right") (rule_data y) no_members)) in
    let whole = member (codes "left") (rule_data x) (member (codes "member") (number_data member_) (member (codes "right") (rule_data y) (member (codes "rule") (string (codes "split")) no_members))) in
    subst (λ e. Puts e o n) spelt (closed whole o last.between n
    (one_more with_right (codes "rule") (string (codes "split")) o d last.between refl
    (one_more with_member (codes "right") (rule_data y) o middle.between d refl
    (one_more with_left (codes "member") (number_data member_) o b middle.between refl
    (one_more no_members (codes "left") (rule_data x) o head.between b refl head.members (with_value (codes "left") (rule_data x) head.between a b head.key first))
    middle.first) (with_value (codes "right") (rule_data y) middle.between c d middle.key second)) last.last) last.end)
