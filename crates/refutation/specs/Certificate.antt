-- What a certificate is.
use Rattle.refutation.specs.declared.certificate.Certificate.{Certificate}
use Rattle.refutation.specs.Rule.{Rule}
use Rattle.refutation.specs.Refutation.{rule_of}

-- the rule at the root of a certificate
abbrev pub certificate_rule : {A : Type 0} → Certificate A → Rule
certificate_rule certificate = rule_of certificate.tree
