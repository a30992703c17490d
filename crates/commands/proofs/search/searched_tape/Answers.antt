use Rattle.std.proofs.Common.{◌≡◌, ◌∙◌, ap, ap₂, sym, subst, List, Option, Result, Ok, is_none, map, rules, string_bytes}
use Rattle.std.specs.List.{list_any}
use Rattle.std.specs.declared.alloc.Global.{Global}
use Rattle.refutation.specs.declared.certificate.Certificate.{Certificate}
use Rattle.refutation.specs.Common.{certificate_rule}
use Rattle.plan.specs.Common.{PlacedClaim, plan_data, PlanData, all_lent, with_certificates, rewritten}
use Rattle.plan.specs.declared.fault.PlanFault.{PlanFault}
use Rattle.plan.proofs.Reread.{ok_is}
use Rattle.cert_search.specs.Answers.{rule_in, AreAnswers, AreAnswersOf}
use Rattle.commands.specs.Searched.{IsPlanLine}
use Rattle.commands.specs.Unfound.{found_status, unfound_lines}
use Rattle.commands.proofs.Findings.{all_shown, rewritten-is}
use Rattle.commands.proofs.Searching.{gap-map, no_gap, status_by, status-is}
use Rattle.commands.proofs.search.searched_tape.Goals as goal

pub returns-clause-reported : goal.returns-clause-reported
returns-clause-reported g c =
    let same : c.into_bytes.result.items ≡ string_bytes c.in_ok-unfound.unfound = search rules in
    let text = c.args.text.now in
    let plan = plan_data c.in_ok-plan.plan in
    let claims = all_lent c.in_ok-claims.claims.items in
    let answers = c.fitting_line.new.certificates.items in
    let rules_of = λ (xs : List (Option (Certificate Global))). map rule_in xs in
    let rules = rules_of answers in
    let listed = c.in_ok-claims.ensures.claims in
    let found = rules_of c.in_ok-certificates.certificates.items in
    let answered : AreAnswers 100000 claims found = subst (λ (r : Result (List PlacedClaim) PlanFault). AreAnswersOf 100000 r found) listed c.in_ok-certificates.ensures.answers in
    let fitted = c.in_ok-line.ensures.fitted in
    let line = c.in_ok-line.ensures.line in
    let given : rewritten text rules ≡ Ok line.0 = line.1 in
    let is : line.0 ≡ with_certificates plan rules = ok_is line.0 (with_certificates plan rules) (sym given ∙ rewritten-is text plan claims rules c.in_ok-plan.ensures.plan listed) in
    let gap = λ (xs : List (Option (Certificate Global))). list_any (λ x. is_none x) xs in
    let byte : c.from-status.result ≡ status_by c.has_gap.result = status-is c.has_gap.result c.from-status.result c.from-status.ensures in
    let status : c.from-status.result ≡ found_status rules = byte ∙ ap status_by (c.has_gap.ensures ∙ (ap gap c.deref-3.ensures.value ∙ gap-map certificate_rule answers)) in
    record {
      data_of = plan;
      spelled = c.in_ok-plan.ensures.plan;
      claims = claims;
      listed = listed;
      found = found;
      answers = answered;
      rules = rules;
      fitted = fitted;
      line = subst (λ (p : PlanData). IsPlanLine text p c.in_ok-line.line.items) is line.2;
      notes_are = same ∙ c.in_ok-unfound.ensures ∙ ap₂ (λ xs ys. unfound_lines (all_lent xs) (rules_of ys)) c.deref.ensures.value c.deref-2.ensures.value;
      status_is = status;
      faultless = λ zero. c.shown_claims_certify.ensures.fault_free plan claims rules listed (all_shown 100000 text claims found rules answered fitted (no_gap rules (sym status ∙ zero)));
    }
