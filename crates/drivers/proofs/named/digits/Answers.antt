use Rattle.std.proofs.Common.{[], ◌≡◌, ◌∙◌, arith, get_or, refl, sym, true}
use Rattle.std.specs.Char.{is_ascii_digit}
use Rattle.drivers.proofs.NamedLines.{digit_high, digits_at, first_digit, nothing_after}
use Rattle.drivers.proofs.Numerals.{digit_more, digits_more}
use Rattle.drivers.proofs.named.digits.Goals as goal

pub loop-at-init : goal.loop-at-init
loop-at-init c =
    let text = c.args.text.now in
    let digit : is_ascii_digit (get_or text 0 0) ≡ true = first_digit text c.requires.low c.requires.high in
    record {
      begun = omega arith;
      inside = omega arith;
      digits = digits_more text 0 c.requires.some refl digit;
      value_is = omega (arith, digit_more text 0 0 c.requires.some digit refl);
      fits = omega arith;
    }

pub loop-at-preserved : goal.loop-at-preserved
loop-at-preserved c =
    let text = c.args.text.now in
    let at = c.loop-at.at in
    let digit : is_ascii_digit (get_or text at 0) ≡ true = sym c.is_ascii_digit.ensures.value ∙ c.if-not-is_ascii_digit.false in
    record {
      begun = omega arith;
      inside = omega arith;
      digits = digits_more text at c.loop-at-test.true c.loop-at.invariant.digits digit;
      value_is = omega (arith, digit_more text at c.loop-at.value c.loop-at-test.true digit c.loop-at.invariant.value_is);
      fits = omega (arith, digit_high (get_or text at 0) digit);
    }

pub returns : goal.returns
returns c =
    let text = c.args.text.now in
    let l = c.loop-at in
    digits_at text c.requires.low l.at l.value [] l.invariant.begun l.invariant.inside l.invariant.digits l.invariant.value_is l.invariant.fits (nothing_after text l.at c.loop-at-test.false)
