-- The command line, as clap reads it.
use Rattle.std.specs.Prelude.{◌≡◌, ℕ, List, [], ◌∷◌, codes, pos, Some, true, false}
use Rattle.clap.specs.Words.{App, Rule, Text, app_of, new_app, new_rule, rule_of, with_rule, with_subcommand}
use Rattle.clap.specs.Simple.{on_top}
use Rattle.clap.specs.declared.builder.arg.Arg.{Arg}
use Rattle.clap.specs.declared.builder.command.Command.{Command}
use Rattle.clap.specs.declared.builder.command.Command.TheViews.{out-Command}
use Rattle.clap.specs.declared.builder.action.ArgAction.TheVariants.{Set, SetTrue}
use Rattle.clap.specs.declared.builder.value_parser.ValueParser.{ValueParser}
use Rattle.clap.specs.declared.builder.value_parser.ValueParser.TheVariants as parsers

abbrev pub file_rule : Text → Rule
file_rule id = record (new_rule id) { required = true; action = Some Set }

abbrev pub file_leaf : Text → App
file_leaf name = with_rule (new_app name) (file_rule (codes "plan"))

abbrev pub script_leaf : Text → App
script_leaf name = with_rule (file_leaf name) (file_rule (codes "script"))

-- an option with a value that this parser reads: --ID N
abbrev pub parsed_rule : Text → ValueParser → Rule
parsed_rule id range = record (new_rule id) { long = Some id; value_names = 1; parser = Some range }

-- a number from one to another: --ID N
abbrev pub bounded_rule : Text → ℕ → ℕ → Rule
bounded_rule id least most = parsed_rule id (parsers.Signed (pos least) (pos most))

-- the same, with a default
abbrev pub count_rule : Text → ℕ → ℕ → Text → Rule
count_rule id least most default = record (bounded_rule id least most) { defaults = default ∷ [] }

-- a text: --ID TEXT
abbrev pub text_rule : Text → Rule
text_rule id = record (new_rule id) { long = Some id; value_names = 1; action = Some Set }

-- the number of workers: -w N or --workers N, from 1 to 16; 4 by default
abbrev pub workers_rule : Rule
workers_rule = record (count_rule (codes "workers") 1 16 (codes "4")) { short = Some 119 }

-- a subcommand of a plan's file and a number of workers
abbrev pub workers_leaf : Text → App
workers_leaf name = with_rule (file_leaf name) workers_rule

-- the file that the printed text goes to: -o FILE or --output FILE
abbrev pub output_rule : Rule
output_rule = record (text_rule (codes "output")) { short = Some 111 }

-- a subcommand of a plan, a script and a number of workers
abbrev pub fleet_leaf : Text → App
fleet_leaf name = with_rule (script_leaf name) workers_rule

-- a file that may be left out
abbrev pub other_file_rule : Text → Rule
other_file_rule id = record (new_rule id) { action = Some Set }

-- an argument before it is added
pub record IsArg (r : Rule) (a : Arg) : Type 0 where
  pub rule : rule_of a ≡ r
  pub local : a.global ≡ false

-- a subcommand before it is added
pub record IsLeaf (a : App) (c : Command) : Type 0 where
  pub app : app_of c ≡ a
  pub local : (out-Command c).has_globals ≡ false

-- the program before its subcommands; one of them is required, and the program has a version
abbrev pub program : App
program = on_top (λ s. record s { has_version = true; subcommand_required = true }) (new_app (codes "plan_tool"))

-- an option without a value: --ID
abbrev pub flag_rule : Text → Rule
flag_rule id = record (new_rule id) { long = Some id; action = Some SetTrue }

-- a subcommand that prints a plan, which may be laid out and go to a file
abbrev pub with_options : App → App
with_options command = with_rule (with_rule command (flag_rule (codes "pretty"))) output_rule

-- a subcommand of a plan's file and a number of workers that prints a plan
abbrev pub search_leaf : Text → App
search_leaf name = with_options (workers_leaf name)

-- a subcommand of a plan's file, and of a script's if it is named, that may write JSON
abbrev pub json_leaf : Text → App
json_leaf name = with_rule (with_rule (file_leaf name) (other_file_rule (codes "script"))) (flag_rule (codes "json"))

-- a member's number, from 0 to 63, which must be given
abbrev pub member_rule : Text → Rule
member_rule id = record (bounded_rule id 0 63) { required = true }

-- the number of a group: -g N or --group N, from 0 to 15; 0 by default
abbrev pub group_rule : Rule
group_rule = record (count_rule (codes "group") 0 15 (codes "0")) { short = Some 103 }

-- the number of a configuration: -c N or --configuration N, from 0 to 63
abbrev pub configuration_rule : Rule
configuration_rule = record (bounded_rule (codes "configuration") 0 63) { short = Some 99 }

-- a subcommand of a plan's file, a number of workers and the options of a replacement
abbrev pub members_leaf : Text → App
members_leaf name = with_rule (with_rule (workers_leaf name) (member_rule (codes "out"))) (member_rule (codes "in"))

abbrev pub places_leaf : Text → App
places_leaf name = with_rule (with_rule (members_leaf name) group_rule) configuration_rule

abbrev pub replace_leaf : Text → App
replace_leaf name =
    with_options (with_rule (with_rule (places_leaf name) (flag_rule (codes "tail"))) (flag_rule (codes "direct")))

-- the number of the configuration to which a step leads, which must be given
abbrev pub target_rule : Rule
target_rule = record configuration_rule { required = true }

-- a subcommand of a plan's file, a group and a configuration
abbrev pub steps_leaf : Text → App
steps_leaf name = with_rule (with_rule (file_leaf name) group_rule) target_rule

-- a subcommand of a plan's file, the first seed and the number of runs
abbrev pub runs_leaf : Text → App
runs_leaf name = with_rule (with_rule (file_leaf name) (count_rule (codes "seed") 0 4294967295 (codes "1")))
    (count_rule (codes "runs") 1 1000000 (codes "1000"))

-- the same, and what happens in the runs
abbrev pub simulate_leaf : Text → App
simulate_leaf name = with_rule (with_rule (runs_leaf name) (flag_rule (codes "crash"))) (flag_rule (codes "replace"))

-- the members of a new plan
abbrev pub zones_leaf : Text → App
zones_leaf name = with_rule (with_rule (new_app name) (text_rule (codes "members"))) (text_rule (codes "zones"))

-- the same, and their kinds and weights
abbrev pub weights_leaf : Text → App
weights_leaf name = with_rule (with_rule (zones_leaf name) (text_rule (codes "tail"))) (text_rule (codes "weights"))

-- the same, and what they survive
abbrev pub words_leaf : Text → App
words_leaf name = with_rule (weights_leaf name) (text_rule (codes "survive"))

-- the same, and what read sets and write sets need
abbrev pub quorums_leaf : Text → App
quorums_leaf name = with_rule (with_rule (words_leaf name) (bounded_rule (codes "read") 1 16320))
    (bounded_rule (codes "write") 1 16320)

-- the same, and the numbers of groups
abbrev pub groups_leaf : Text → App
groups_leaf name = with_rule (with_rule (quorums_leaf name) (count_rule (codes "groups") 1 16 (codes "1")))
    (bounded_rule (codes "born") 1 16)

-- all options of a new plan
abbrev pub new_leaf : Text → App
new_leaf name =
    with_options (with_rule (with_rule (groups_leaf name) (count_rule (codes "lal") 1 10000000 (codes "10000000")))
    workers_rule)

-- a subcommand of a plan's file, and of a script's if it is named
abbrev pub draw_leaf : Text → App
draw_leaf name = with_rule (with_rule (file_leaf name) (other_file_rule (codes "script"))) output_rule

-- the program with these subcommands
abbrev pub with_each : App → List App → App
with_each app [] = app
with_each app (leaf ∷ later) = with_each (with_subcommand app leaf.top) later

-- check FILE, run PLAN SCRIPT, fleet PLAN SCRIPT -w N, search FILE -w N, explain FILE SCRIPT --json, whose script may
-- be left out, replace FILE -w N --out N --in N -g N -c N --tail --direct, steps FILE -g N -c N, simulate FILE --seed N
-- --runs N --crash --replace, new --members TEXT --zones TEXT --tail TEXT --weights TEXT --survive TEXT --read N
-- --write N --groups N --born N --lal N -w N, draw FILE SCRIPT, whose script may be left out; and --pretty of search,
-- replace and new, -o FILE of these and of draw
abbrev pub tool : App
tool = with_each program (file_leaf (codes "check") ∷ script_leaf (codes "run") ∷ fleet_leaf (codes "fleet")
    ∷ search_leaf (codes "search") ∷ json_leaf (codes "explain") ∷ replace_leaf (codes "replace")
    ∷ steps_leaf (codes "steps") ∷ simulate_leaf (codes "simulate") ∷ new_leaf (codes "new") ∷ draw_leaf (codes "draw")
    ∷ [])
