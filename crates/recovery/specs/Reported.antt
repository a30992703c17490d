-- The reports of all groups.
use Rattle.std.specs.Prelude.{List, [], ◌∷◌, ◌++◌}
use Rattle.volume_model.specs.Common.{Contents, contents_of, ClientGroup}

-- the contents of all reports, in order of group
abbrev pub reports_in : List ClientGroup → List Contents
reports_in [] = []
reports_in (group ∷ groups) = contents_of group.reports ++ reports_in groups
