use Rattle.std.proofs.Common.{◌≡◌, ◌∙◌, ap, sym, length, arith}
use Rattle.std.proofs.lemmas.List.{length-map}
use Rattle.plan.specs.Common.{plan_data, claims_in, placed, all_placed}
use Rattle.plan.proofs.Reread.{ok_is}
use Rattle.volume_tests.proofs.certificates.written.Goals as goal

pub write_plan-requires : goal.write_plan-requires
write_plan-requires c = λ plan claims read listed.
    let same : plan_data c.in_ok-plan.plan ≡ plan = ok_is (plan_data c.in_ok-plan.plan) plan (sym c.in_ok-plan.ensures.read ∙ read) in
    let all : all_placed c.in_ok-claims.claims.items ≡ claims = ok_is (all_placed c.in_ok-claims.claims.items) claims (sym c.in_ok-claims.ensures.claims ∙ ap claims_in same ∙ listed) in
    let counted : length c.in_ok-certificates.certificates.items ≡ length c.in_ok-claims.claims.items = omega (arith, c.in_ok-certificates.certificates.ok.0, c.in_ok-claims.claims.ok.0) in
    ap length c.deref.ensures.value ∙ counted ∙ sym (length-map c.in_ok-claims.claims.items placed) ∙ ap length all
