-- The definitions that other crates cite, passed on from one place. Declares nothing.
pub use Rattle.refutation.specs.Rule.{Branches, EachHasLimits, HasLimits, Rule, branch, branch_count, branch_depth, branches_of, clash, dead, depth_of, no_branch, open_all, pair_up, pick, split}
pub use Rattle.refutation.specs.Refutation.{rule_of}
pub use Rattle.refutation.specs.Limits.{branch_nodes, each_keeps_lists, is_certificate, keeps_lists, nodes_of}
pub use Rattle.refutation.specs.Certificate.{certificate_rule}
pub use Rattle.refutation.specs.Reading.{array_of, has_keys}
unfoldable pub use Rattle.refutation.specs.Reading.{certificate_in, form_of, number_to}
pub use Rattle.refutation.specs.Forms.{rules_of}
pub use Rattle.refutation.specs.Writing.{branches_data, certificate_data, clash_data, dead_data, match_data, number_data, numbers_data, open_data, pair_data, pairs_data, pick_data, side_text, split_data}
pub use Rattle.refutation.specs.Ranges.{EachHasRanges, HasRanges, IsPairInRange}
