-- The data of configurations without certificates.
use Rattle.std.specs.Prelude.{Some, None}
use Rattle.quorum_expr.specs.Common.{formula_of}
use Rattle.plan.specs.Common.{configuration_data, ConfigurationData}
use Rattle.plan.specs.declared.configurations.Configuration.{Configuration}
use Rattle.plan_edit.specs.declared.drafts.Draft.{Draft}

-- a configuration without its certificates
abbrev pub uncertified : ConfigurationData → ConfigurationData
uncertified x = record {
  parent = x.parent;
  members = x.members;
  full = x.full;
  read = x.read;
  write = x.write;
  meets = None;
  step = None;
}

-- the data of a plan's configuration without its certificates
abbrev pub bare : Configuration → ConfigurationData
bare x = uncertified (configuration_data x)

-- a configuration that isn't part of a plan yet
abbrev pub draft_data : Draft → ConfigurationData
draft_data x = record {
  parent = Some x.parent;
  members = x.members;
  full = x.full;
  read = formula_of x.read;
  write = formula_of x.write;
  meets = None;
  step = None;
}
