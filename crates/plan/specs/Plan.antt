-- The data of a program's plan.
use Rattle.std.specs.Prelude.{List, map, option_map}
use Rattle.refutation.specs.Common.{certificate_rule}
use Rattle.quorum_expr.specs.Common.{formula_of}
use Rattle.plan.specs.declared.configurations.Configuration.{Configuration}
use Rattle.plan.specs.declared.configurations.Group.{Group}
use Rattle.plan.specs.declared.configurations.Plan.{Plan}
use Rattle.plan.specs.PlanData.{ConfigurationData, PlanData}

abbrev pub configuration_data : Configuration → ConfigurationData
configuration_data x = record {
  parent = x.parent;
  members = x.members;
  full = x.full;
  read = formula_of x.read;
  write = formula_of x.write;
  meets = option_map certificate_rule x.meets;
  step = option_map certificate_rule x.step;
}

abbrev pub group_data : Group → List ConfigurationData
group_data group = map configuration_data group.configurations.items

abbrev pub plan_data : Plan → PlanData
plan_data plan = record {
  format = plan.format;
  lal = plan.lal;
  born = plan.born;
  groups = map group_data
      plan.groups.items;
}
