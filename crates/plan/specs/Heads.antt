-- The keys and values of a rule before its branches.
use Rattle.std.specs.Prelude.{ℕ, List, codes}
use Rattle.serde_json.specs.Data.{string, Members, no_members, member}
use Rattle.refutation.specs.declared.Side.{Side}
use Rattle.refutation.specs.Common.{side_text, number_data}

-- the key "rule" with the rule's name, and then others
abbrev pub rule_first : List ℕ → Members → Members
rule_first name rest = member (codes "rule") (string name) rest

-- the name of a rule, a side, and the number of an item there
abbrev pub side_members : List ℕ → Side → ℕ → Members
side_members name side item = member (codes "item") (number_data item)
    (rule_first name (member (codes "side") (string (side_text side)) no_members))

-- the name of a rule, and the numbers of an item on each side
abbrev pub item_members : List ℕ → ℕ → ℕ → Members
item_members name left right = member (codes "left") (number_data left) (member (codes "right") (number_data right)
    (rule_first name no_members))
