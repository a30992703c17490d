-- Placeholders: a table and a plan.
use Rattle.std.specs.Prelude.{[]}
use Rattle.atomic_table.specs.Seated.{TableId}
use Rattle.volume_model.specs.Formula.Formula.{member}
use Rattle.volume_model.specs.Common.{Plan}

-- a placeholder table
abbrev pub no_table : TableId
no_table = record { words = 0; slots = 0; views_name = 0; atom = 0; block = 0; offset = 0; slot_names = [] }

-- a plan without groups
abbrev pub no_plan : Plan
no_plan =
    record {
      lal = 0;
      born = 0;
      groups = 0;
      configurations = λ group. 0;
      configuration = λ group number. record {
        parent = 0;
        epoch = 0;
        members = [];
        full = [];
        read = member 0;
        write =
            member 0;
      };
    }
