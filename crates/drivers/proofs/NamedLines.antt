-- A line at the head of a text that names a message.
use Rattle.std.proofs.Common.{◌≡◌, ◌∙◌, ap, ap₂, sym, subst, ℕ, zero, suc, ◌+◌, ◌-◌, ◌<◌, ◌≤◌, Bool, true, false, List, [], ◌∷◌, ◌++◌, ◌&&◌, ◌||◌, Option, Some, None, All, append_assoc, codes, length, drop, take, take-append-drop, get_or, refl, eqb, leb, arith, length-append, le-leb, leb-true, ne_eqb, append-nil, get_or-take, length-take-le}
use Rattle.std.specs.Char.{is_ascii_digit}
use Rattle.std.specs.List.{list_all}
use Rattle.std.specs.Str.{IsUtf8}
use Rattle.std.specs.Str.Parse.{digits_value}
use Rattle.std.proofs.lemmas.Bool.Decides.{nat_tests}
use Rattle.std.proofs.lemmas.List.Elements.{All-append, All-cons, All-tail, All-weaker}
use Rattle.std.proofs.lemmas.List.Splits.{slice_split_at, slice_split_none}
use Rattle.std.proofs.lemmas.List.Sums.{AllPass-from_list_all}
use Rattle.std.proofs.lemmas.Str.{IsUtf8-from_ascii}
use Rattle.std.proofs.Math.Seq.{take-append-add, take-append_seam}
use Rattle.world.specs.declared.event.Order.{Order}
use Rattle.world.specs.declared.event.Order.TheVariants as orders
use Rattle.drivers.specs.Grammar.{LineAction, action_of, most_blocks, most_ids, most_numbers, said}
use Rattle.drivers.specs.Grammar.LineAction.{Delivers, Takes}
use Rattle.drivers.specs.Named.{EndsLine, HasName, HasOrder, IsFirstLine, IsNumberAt, IsVisible}
use Rattle.drivers.specs.Pieces.{pieces, before_newline}
use Rattle.drivers.specs.Seen.{Seen, asked_by, seen_action}
use Rattle.drivers.specs.Words.{is_numeral, number_in, sides_in, words_in}
use Rattle.drivers.proofs.Heads.{and_both}
use Rattle.drivers.proofs.Numerals.{begins, digit_more}

-- a line's bytes: ASCII, and no newline
abbrev IsPlain : ℕ → Type 0
IsPlain b = (b < 128) × (eqb b 10 ≡ false)

digit_low : (b : ℕ) → is_ascii_digit b ≡ true → 47 < b
digit_low b e = grind (arith, nat_tests)

pub digit_high : (b : ℕ) → is_ascii_digit b ≡ true → b < 58
digit_high b e = grind (arith, nat_tests)

pub digits_in : (word : List ℕ) → is_numeral word ≡ true → All (λ b. is_ascii_digit b ≡ true) word
digits_in word e = AllPass-from_list_all is_ascii_digit word (and_both (begins word) (list_all is_ascii_digit word) e).1

-- a numeral has neither a space nor a dot
pub numeral_visible : (word : List ℕ) → is_numeral word ≡ true → IsVisible word
numeral_visible word e =
    All-weaker (λ b. is_ascii_digit b ≡ true) (λ b. (32 < b) × (b < 128)) (λ b d. (omega (arith, digit_low b d), omega (arith, digit_high b d))) word (digits_in word e)

no_dot : (word : List ℕ) → is_numeral word ≡ true → All (λ b. eqb b 46 ≡ false) word
no_dot word e = All-weaker (λ b. is_ascii_digit b ≡ true) (λ b. eqb b 46 ≡ false) (λ b d. ne_eqb b 46 (λ same. absurd (omega (arith, digit_low b d, same)))) word (digits_in word e)

pub no_space : (word : List ℕ) → IsVisible word → All (λ b. eqb b 32 ≡ false) word
no_space word visible = All-weaker (λ b. (32 < b) × (b < 128)) (λ b. eqb b 32 ≡ false) (λ b v. ne_eqb b 32 (λ same. absurd (omega (arith, v.0, same)))) word visible

plain_word : (word : List ℕ) → IsVisible word → All IsPlain word
plain_word word visible = All-weaker (λ b. (32 < b) × (b < 128)) IsPlain (λ b v. (v.1, ne_eqb b 10 (λ same. absurd (omega (arith, v.0, same))))) word visible

-- the words of a line, one more in front
plain_more : (word rest : List ℕ) → IsVisible word → All IsPlain rest → All IsPlain (word ++ 32 ∷ rest)
plain_more word rest visible later = All-append IsPlain word (32 ∷ rest) (plain_word word visible) (All-cons IsPlain 32 rest (omega arith, refl) later)

words_more : (word rest : List ℕ) (words : List (List ℕ)) → IsVisible word → words_in rest ≡ words → words_in (word ++ 32 ∷ rest) ≡ word ∷ words
words_more word rest words visible later = slice_split_at (λ b. eqb b 32) word 32 rest (no_space word visible) refl ∙ ap (λ ws. word ∷ ws) later

pub joined : (text word rest after more tail : List ℕ) (c : ℕ) → text ≡ word ++ rest → rest ≡ c ∷ after → after ≡ more ++ tail → text ≡ (word ++ c ∷ more) ++ tail
joined text word rest after more tail c is begins goes =
    is ∙ (ap (λ r. word ++ r) (begins ∙ ap (λ r. c ∷ r) goes) ∙ sym (append_assoc word (c ∷ more) tail))

or_true : (a : Bool) → (a || true) ≡ true
or_true true = refl
or_true false = refl

-- digits at the head of a text are a numeral where the first isn't 0
module _ (text : List ℕ) (low : 49 ≤ get_or text 0 0) where
  pub digits_at : (i value : ℕ) (rest : List ℕ) → 1 ≤ i → i ≤ length text → list_all is_ascii_digit (take i text) ≡ true → value ≡ digits_value 10 (take i text) → value ≤ 4294967295 → rest ≡ drop i text → IsNumberAt text value rest
  digits_at i value rest begun inside digits worth below rest_is =
      let long : length (take i text) ≡ i = length-take-le i text inside in
      let some : leb 1 (length (take i text)) ≡ true = le-leb 1 (length (take i text)) (omega (arith, long, begun)) in
      let first : get_or (take i text) 0 0 ≡ get_or text 0 0 = get_or-take i text 0 0 (omega (arith, begun)) in
      let other : eqb (get_or (take i text) 0 0) 48 ≡ false = ne_eqb (get_or (take i text) 0 0) 48 (λ same. absurd (omega (arith, same, first, low))) in
      record {
        word = take i text;
        is = sym (take-append-drop i text) ∙ ap (λ r. take i text ++ r) (sym rest_is);
        numeral = rw (some, other, or_true (leb (length (take i text)) 1), digits) refl;
        worth = worth;
        below = below;
      }

  pub first_digit : get_or text 0 0 ≤ 57 → is_ascii_digit (get_or text 0 0) ≡ true
  first_digit high = grind (arith, nat_tests)

-- nothing comes after the end
pub nothing_after : (xs : List ℕ) (i : ℕ) → length xs ≤ i → [] ≡ drop i xs
nothing_after [] zero over = refl
nothing_after [] (suc i) over = refl
nothing_after (x ∷ xs) zero over = absurd (omega arith)
nothing_after (x ∷ xs) (suc i) over = nothing_after xs i (omega arith)

-- and so is one digit
pub one_digit : (text rest : List ℕ) (value : ℕ) → is_ascii_digit (get_or text 0 0) ≡ true → value ≡ get_or text 0 0 - 48 → rest ≡ drop 1 text → IsNumberAt text value rest
one_digit [] rest value digit worth is = absurd (let bad : false ≡ true = digit in cc)
one_digit (b ∷ text) rest value digit worth is =
    record {
      word = b ∷ [];
      is = ap (λ r. b ∷ r) (sym is);
      numeral = rw digit refl;
      worth = omega (arith, digit_more (b ∷ []) 0 0 (omega arith) digit refl);
      below = omega (arith, digit_high b digit);
    }

-- a numeral spells its number
pub spelled_at : (most n : ℕ) (word : List ℕ) → is_numeral word ≡ true → n ≡ digits_value 10 word → n ≤ most → number_in most word ≡ Some n
spelled_at most n word numeral worth fits =
    let within : leb (digits_value 10 word) most ≡ true = le-leb (digits_value 10 word) most (omega (arith, worth, fits)) in
    rw (numeral, within) (ap Some (sym worth))

-- two numerals around a dot name a message
module _ (text : List ℕ) (events : List (Option ℕ)) (line place event : ℕ) (rest after tail end : List ℕ) (l : IsNumberAt text line rest) (dot : rest ≡ 46 ∷ after) (p : IsNumberAt after place tail) where
  sides : sides_in (l.word ++ 46 ∷ p.word) ≡ l.word ∷ p.word ∷ []
  sides = slice_split_at (λ b. eqb b 46) l.word 46 p.word (no_dot l.word l.numeral) refl ∙ ap (λ parts. l.word ∷ parts) (slice_split_none (λ b. eqb b 46) p.word (no_dot p.word p.numeral))

  pub name_is : EndsLine tail end → 1 ≤ line → line ≤ length events → 1 ≤ place → get_or events (line - 1) None ≡ Some event → HasName text events event place end
  name_is ends from upto some made =
      let line_is : number_in most_numbers l.word ≡ Some line = spelled_at most_numbers line l.word l.numeral l.worth (omega (arith, l.below)) in
      let place_is : number_in most_numbers p.word ≡ Some place = spelled_at most_numbers place p.word p.numeral p.worth (omega (arith, p.below)) in
      record {
        word = l.word ++ 46 ∷ p.word;
        tail = tail;
        is = joined text l.word rest after p.word tail 46 l.is dot p.is;
        ends = ends;
        visible = All-append (λ b. (32 < b) × (b < 128)) l.word (46 ∷ p.word) (numeral_visible l.word l.numeral) (All-cons (λ b. (32 < b) × (b < 128)) 46 p.word (omega arith, omega arith) (numeral_visible p.word p.numeral));
        line = line;
        named = rw (sides, line_is, place_is, le-leb 1 line from, le-leb line (length events) upto, le-leb 1 place some) refl;
        made = made;
      }

-- a line ends at the first newline
pieces_line : (line after : List ℕ) → All IsPlain line → pieces (line ++ 10 ∷ after) ≡ (line ++ 10 ∷ []) ∷ pieces after
pieces_line [] after plain = refl
pieces_line (b ∷ line) after plain =
    let other : eqb b 10 ≡ false = (plain 0 0 (omega arith)).1 in
    rw (other, pieces_line line after (All-tail IsPlain b line plain)) refl

before_line : (line rest : List ℕ) → All IsPlain line → before_newline (line ++ 10 ∷ rest) ≡ line
before_line [] rest plain = refl
before_line (b ∷ line) rest plain =
    let other : eqb b 10 ≡ false = (plain 0 0 (omega arith)).1 in
    rw (other, before_line line rest (All-tail IsPlain b line plain)) refl

-- or at the text's end
pieces_last : (b : ℕ) (line : List ℕ) → All IsPlain (b ∷ line) → pieces (b ∷ line) ≡ (b ∷ line) ∷ []
pieces_last b [] plain = let other : eqb b 10 ≡ false = (plain 0 0 (omega arith)).1 in rw other refl
pieces_last b (c ∷ line) plain =
    let other : eqb b 10 ≡ false = (plain 0 0 (omega arith)).1 in
    rw (other, pieces_last c line (All-tail IsPlain b (c ∷ line) plain)) refl

before_last : (line : List ℕ) → All IsPlain line → before_newline line ≡ line
before_last [] plain = refl
before_last (b ∷ line) plain =
    let other : eqb b 10 ≡ false = (plain 0 0 (omega arith)).1 in
    rw (other, before_last line (All-tail IsPlain b line plain)) refl

first_of : (b : ℕ) (line tail after : List ℕ) → All IsPlain (b ∷ line) → EndsLine tail after → IsFirstLine ((b ∷ line) ++ tail) (b ∷ line) after
first_of b line [] after plain ends =
    let long : length ((b ∷ line) ++ []) - length after ≡ length (b ∷ line) = omega (arith, length-append (b ∷ line) [], ap length ends) in
    let whole : take (length ((b ∷ line) ++ []) - length after) ((b ∷ line) ++ []) ≡ b ∷ line = ap (λ n. take n ((b ∷ line) ++ [])) long ∙ take-append_seam (b ∷ line) [] in
    let over : pieces after ≡ [] = ap pieces ends in
    record {
      first = sym (ap before_newline whole ∙ before_last (b ∷ line) plain);
      pieces_are = (ap pieces (append-nil (b ∷ line)) ∙ pieces_last b line plain) ∙ sym (ap₂ (λ (p : List ℕ) (ps : List (List ℕ)). p ∷ ps) whole over);
      shorter = omega (arith, length-append (b ∷ line) [], ap length ends);
    }
first_of b line (c ∷ tail) after plain ends =
    subst (λ (xs : List ℕ). IsFirstLine ((b ∷ line) ++ xs) (b ∷ line) after) (let same : 10 ∷ after ≡ c ∷ tail = cc (ends.0, ends.1) in same) (ended)
  where
    long : length ((b ∷ line) ++ 10 ∷ after) - length after ≡ length (b ∷ line) + 1
    long = omega (arith, length-append (b ∷ line) (10 ∷ after))

    front : take (length ((b ∷ line) ++ 10 ∷ after) - length after) ((b ∷ line) ++ 10 ∷ after) ≡ (b ∷ line) ++ 10 ∷ []
    front = ap (λ n. take n ((b ∷ line) ++ 10 ∷ after)) long ∙ take-append-add (b ∷ line) (10 ∷ after) 1

    ended : IsFirstLine ((b ∷ line) ++ 10 ∷ after) (b ∷ line) after
    ended = record {
      first = sym (ap before_newline front ∙ before_line (b ∷ line) [] plain);
      pieces_are = pieces_line (b ∷ line) after plain ∙ ap (λ piece. piece ∷ pieces after) (sym front);
      shorter = omega (arith, length-append (b ∷ line) (10 ∷ after));
    }

-- a plain line is UTF-8
low_at : (line : List ℕ) → All IsPlain line → (i : ℕ) → get_or line i 0 < 128
low_at [] plain zero = omega arith
low_at [] plain (suc i) = omega arith
low_at (b ∷ line) plain zero = (plain 0 0 (omega arith)).0
low_at (b ∷ line) plain (suc i) = low_at line (All-tail IsPlain b line plain) i

plain_utf8 : (line : List ℕ) → All IsPlain line → IsUtf8 line
plain_utf8 line plain = IsUtf8-from_ascii line (low_at line plain)

-- bytes that are those of words
visible_by : (xs : List ℕ) → list_all (λ b. leb 33 b && leb b 127) xs ≡ true → IsVisible xs
visible_by xs e =
    All-weaker (λ b. (leb 33 b && leb b 127) ≡ true) (λ b. (32 < b) × (b < 128)) (λ b both. let two = and_both (leb 33 b) (leb b 127) both in (omega (arith, leb-true 33 b two.0), omega (arith, leb-true b 127 two.1))) xs
    (AllPass-from_list_all (λ b. leb 33 b && leb b 127) xs e)

deliver_visible : IsVisible (codes "deliver")
deliver_visible = visible_by (codes "deliver") refl

take_visible : IsVisible (codes "take")
take_visible = visible_by (codes "take") refl

-- a line at the head of a text that asks for this
ordered : (text : List ℕ) (events : List (Option ℕ)) (order : Order) (after : List ℕ) (b : ℕ) (line tail : List ℕ) (action : LineAction) → text ≡ (b ∷ line) ++ tail → EndsLine tail after → All IsPlain (b ∷ line)
    → action_of (length events) (b ∷ line) ≡ Some action → seen_action events action ≡ Seen.Asks (asked_by order) → HasOrder text events order after
ordered text events order after b line tail action whole ends plain says asks =
    record {
      line = b ∷ line;
      first = subst (λ (t : List ℕ). IsFirstLine t (b ∷ line) after) (sym whole) (first_of b line tail after plain ends);
      utf8 = plain_utf8 (b ∷ line) plain;
      action = action;
      says = says;
      asks = asks;
    }

module _ (text rest after : List ℕ) (events : List (Option ℕ)) (event place : ℕ) (words names : List ℕ) where
  -- a delivery, of which the numbers of its group and its member and the name were read
  pub delivers : (group member : ℕ) → text ≡ codes "deliver " ++ words → IsNumberAt words group (32 ∷ rest) → group ≤ 255 → IsNumberAt rest member (32 ∷ names) → member ≤ 255 → HasName names events event place after
      → HasOrder text events (orders.DeliverFrom group member event place) after
  delivers group member begins g low m small n =
      let gs = numeral_visible g.word g.numeral in
      let ms = numeral_visible m.word m.numeral in
      let two : rest ≡ (m.word ++ 32 ∷ n.word) ++ n.tail = joined rest m.word (32 ∷ names) names n.word n.tail 32 m.is refl n.is in
      let three : words ≡ (g.word ++ 32 ∷ (m.word ++ 32 ∷ n.word)) ++ n.tail = joined words g.word (32 ∷ rest) rest (m.word ++ 32 ∷ n.word) n.tail 32 g.is refl two in
      let whole : text ≡ (codes "deliver " ++ (g.word ++ 32 ∷ (m.word ++ 32 ∷ n.word))) ++ n.tail = begins ∙ ap (λ r. codes "deliver " ++ r) three in
      let plain : All IsPlain (codes "deliver " ++ (g.word ++ 32 ∷ (m.word ++ 32 ∷ n.word))) =
      plain_more (codes "deliver") (g.word ++ 32 ∷ (m.word ++ 32 ∷ n.word)) deliver_visible (plain_more g.word (m.word ++ 32 ∷ n.word) gs (plain_more m.word n.word ms (plain_word n.word n.visible))) in
      let last : words_in n.word ≡ n.word ∷ [] = slice_split_none (λ b. eqb b 32) n.word (no_space n.word n.visible) in
      let parts : words_in (codes "deliver " ++ (g.word ++ 32 ∷ (m.word ++ 32 ∷ n.word))) ≡ codes "deliver" ∷ g.word ∷ m.word ∷ n.word ∷ [] =
      words_more (codes "deliver") (g.word ++ 32 ∷ (m.word ++ 32 ∷ n.word)) (g.word ∷ m.word ∷ n.word ∷ []) deliver_visible
      (words_more g.word (m.word ++ 32 ∷ n.word) (m.word ∷ n.word ∷ []) gs (words_more m.word n.word (n.word ∷ []) ms last)) in
      let group_is : number_in most_ids g.word ≡ Some group = spelled_at most_ids group g.word g.numeral g.worth low in
      let member_is : number_in most_ids m.word ≡ Some member = spelled_at most_ids member m.word m.numeral m.worth small in
      ordered text events (orders.DeliverFrom group member event place) after 100 (codes "eliver " ++ (g.word ++ 32 ∷ (m.word ++ 32 ∷ n.word))) n.tail (Delivers group member n.line place) whole n.ends plain
      (ap (said (length events)) parts ∙ rw (group_is, member_is, n.named) refl) (rw n.made refl)

  -- the same of a taking
  pub takes : (volume : ℕ) → text ≡ codes "take " ++ words → IsNumberAt words volume (32 ∷ names) → HasName names events event place after → HasOrder text events (orders.TakeFrom volume event place) after
  takes volume begins v n =
      let vs = numeral_visible v.word v.numeral in
      let two : words ≡ (v.word ++ 32 ∷ n.word) ++ n.tail = joined words v.word (32 ∷ names) names n.word n.tail 32 v.is refl n.is in
      let whole : text ≡ (codes "take " ++ (v.word ++ 32 ∷ n.word)) ++ n.tail = begins ∙ ap (λ r. codes "take " ++ r) two in
      let plain : All IsPlain (codes "take " ++ (v.word ++ 32 ∷ n.word)) = plain_more (codes "take") (v.word ++ 32 ∷ n.word) take_visible (plain_more v.word n.word vs (plain_word n.word n.visible)) in
      let last : words_in n.word ≡ n.word ∷ [] = slice_split_none (λ b. eqb b 32) n.word (no_space n.word n.visible) in
      let parts : words_in (codes "take " ++ (v.word ++ 32 ∷ n.word)) ≡ codes "take" ∷ v.word ∷ n.word ∷ [] =
      words_more (codes "take") (v.word ++ 32 ∷ n.word) (v.word ∷ n.word ∷ []) take_visible (words_more v.word n.word (n.word ∷ []) vs last) in
      let volume_is : number_in most_blocks v.word ≡ Some volume = spelled_at most_blocks volume v.word v.numeral v.worth v.below in
      ordered text events (orders.TakeFrom volume event place) after 116 (codes "ake " ++ (v.word ++ 32 ∷ n.word)) n.tail (Takes volume n.line place) whole n.ends plain
      (ap (said (length events)) parts ∙ rw (volume_is, n.named) refl) (rw n.made refl)
