-- What a program asks about a node.
use Rattle.std.specs.Prelude.{ℕ, List, Bool, false, min, Option, option_map}
use Rattle.std.specs.Str.{bytes_eq}
use Rattle.serde_json.specs.Data.{Data, null, boolean, number, string, array, object, Items, no_items}
use Rattle.serde_json.specs.Events.{members_len}
use Rattle.serde_json.specs.Find.{as_object}

-- the value is this string
abbrev pub says : List ℕ → Data → Bool
says text null = false
says text (boolean b) = false
says text (number n) = false
says text (string s) = bytes_eq s text
says text (array ds) = false
says text (object ms) = false

-- the number of keys of an object, at most this many
abbrev pub keys_up_to : ℕ → Data → Option ℕ
keys_up_to most d = option_map (λ ms. min (members_len ms) most) (as_object d)

-- the items of an array; no items for any other value
abbrev pub items_in : Data → Items
items_in null = no_items
items_in (boolean b) = no_items
items_in (number n) = no_items
items_in (string s) = no_items
items_in (array ds) = ds
items_in (object ms) = no_items
