use Rattle.std.proofs.Common.{◌≡◌, ◌∙◌, ◌+◌, ◌-◌, ◌*◌, ◌<◌, arith, eq-eqb, eqb, false, get_or, sym, ne_eqb}
use Rattle.std.proofs.lemmas.List.{take_rest}
use Rattle.std.proofs.lemmas.List.Elements.{All-more}
use Rattle.drivers.proofs.Heads.{no_digit_here, no_number_alone, no_number_here, number_alone, number_here, too_long_here}
use Rattle.drivers.proofs.Numerals.{digit_more, digits_more}
use Rattle.drivers.proofs.numeral.split_number.Goals as goal

pub returns-then-not-is_number : goal.returns-then-not-is_number
returns-then-not-is_number c =
    no_number_here c.args.separator c.args.most c.args.text.now c.loop-at.at c.loop-at.value c.loop-at-test.true (eq-eqb _ c.args.separator c.if-byte-separator.true) c.loop-at.invariant.before
    (sym c.is_number.ensures ∙ c.if-not-is_number.true) c.loop-at.invariant.value_is

pub returns-then-byte-separator : goal.returns-then-byte-separator
returns-then-byte-separator c =
    rw take_rest (number_here c.args.separator c.args.most c.args.text.now c.loop-at.at c.loop-at.value c.loop-at-test.true (eq-eqb _ c.args.separator c.if-byte-separator.true) c.loop-at.invariant.before
    (sym c.is_number.ensures ∙ c.if-not-is_number.false) c.loop-at.invariant.digits c.loop-at.invariant.value_is)

pub returns-then-not-is_ascii_digit : goal.returns-then-not-is_ascii_digit
returns-then-not-is_ascii_digit c =
    no_digit_here c.args.separator c.args.most c.args.text.now c.loop-at.at c.loop-at-test.true (ne_eqb _ c.args.separator c.if-byte-separator.false) c.loop-at.invariant.before
    (sym c.is_ascii_digit.ensures.value ∙ c.if-not-is_ascii_digit.true)

pub returns-in_default : goal.returns-in_default
returns-in_default c =
    let text = c.args.text.now in
    let i = c.loop-at.at in
    let next = digit_more text i c.loop-at.value c.loop-at-test.true (sym c.is_ascii_digit.ensures.value ∙ c.if-not-is_ascii_digit.false) c.loop-at.invariant.value_is in
    let over : c.args.most < c.loop-at.value * 10 + (get_or text i 0 - 48) = omega arith in
    too_long_here c.args.separator c.args.most text i (c.loop-at.value * 10 + (get_or text i 0 - 48)) c.loop-at-test.true (ne_eqb _ c.args.separator c.if-byte-separator.false) c.loop-at.invariant.before next over

pub loop-at-preserved : goal.loop-at-preserved
loop-at-preserved c =
    let text = c.args.text.now in
    let i = c.loop-at.at in
    let digit = sym c.is_ascii_digit.ensures.value ∙ c.if-not-is_ascii_digit.false in
    let next = digit_more text i c.loop-at.value c.loop-at-test.true digit c.loop-at.invariant.value_is in
    record {
      before = All-more (λ b. eqb b c.args.separator ≡ false) text i 0 c.loop-at-test.true c.loop-at.invariant.before (ne_eqb _ c.args.separator c.if-byte-separator.false);
      digits = digits_more text i c.loop-at-test.true c.loop-at.invariant.digits digit;
      value_is = omega (arith, next);
      fits = omega arith;
    }

pub returns-then-not-is_number-2 : goal.returns-then-not-is_number-2
returns-then-not-is_number-2 c =
    no_number_alone c.args.separator c.args.most c.args.text.now c.loop-at.at c.loop-at.value c.loop-at-test.false c.loop-at.invariant.before
    (sym c.is_number-2.ensures ∙ c.if-not-is_number-2.true) c.loop-at.invariant.value_is

pub returns : goal.returns
returns c =
    number_alone c.args.separator c.args.most c.args.text.now c.loop-at.at c.loop-at.value c.loop-at-test.false c.loop-at.invariant.before
    (sym c.is_number-2.ensures ∙ c.if-not-is_number-2.false) c.loop-at.invariant.digits c.loop-at.invariant.value_is
