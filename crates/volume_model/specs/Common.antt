-- The definitions that proofs and other crates cite, passed on from one place. Declares nothing.
pub use Rattle.volume_model.specs.Formula.{Children, EachHasCounts, EachSpeaksOf, EachWeighs, Formula, HasCounts, Members, SpeaksOf, at_least, child, dual_of, duals_of, each_once, each_weighs, formulas, no_child, sat, total_weight, weight_at, weight_held}
pub use Rattle.volume_model.specs.Meets.{AreDisjoint, AreMembers, Meets}
pub use Rattle.volume_model.specs.Numbers.{number_of}
pub use Rattle.volume_model.specs.Names.{fault_text}
pub use Rattle.volume_model.specs.Answer.{Answers, AnswersAfterGrowth, AnswersAlways, AnswersNew, AnswersNewAfterGrowth, Fails, Gives, may_run_out_of_memory, never_after_growth, refusal_of, ◌>>=◌}
pub use Rattle.volume_model.specs.Lists.{IsBeginningOf, IsIn, added, any, each_below, every, every_below, joined, numbered, put, put_at, some_below}
pub use Rattle.volume_model.specs.Sets.{listed}
pub use Rattle.volume_model.specs.Redo.{Redo, chain_from, chain_or_none, cut_of, ends_at_point, first_of, follow, greatest_grounded, greatest_point, grounded, holds_record, is_same, last_lsn, last_of_block, last_of_group, log_found, numbers_before, of_group, record_at, same_numbers, scl, spelling, up_to, with_record, with_records}
pub use Rattle.volume_model.specs.Lineage.{Contents, Lineage, birth, extended, extension, is_live, last_cut, last_epoch, last_start, newer, newest, newest_with, with_found, with_live}
pub use Rattle.volume_model.specs.Pieces.{Copy, KeptPiece, Piece, Pieces, brought, brought_by, contents_in, copied_by, first_piece, has_piece, in_pieces, is_bad_piece, is_complete, is_of_other, is_piece, most_in_piece, most_pieces, piece_in, piece_of, piece_records, pieces_from, pieces_of, united, with_copy, with_install, with_piece, with_series}
pub use Rattle.volume_model.specs.Plan.{Configuration, HaveCommonMember, IsAbove, IsCertified, IsStep, Plan, StandsAbove, epoch_of, has_member, is_configuration, is_fresh, is_full, is_named, parent_of}
pub use Rattle.volume_model.specs.Plan.StandsAbove.{by_ancestor, by_parent}
pub use Rattle.volume_model.specs.Claims.{ClaimsCertify, KeepsClaim, KeepsClaims, KeepsStepClaim}
pub use Rattle.volume_model.specs.Message.{Label, Message, Place, place_in}
pub use Rattle.volume_model.specs.Message.Message.{Ack, CopyAsk, CopyReport, Fence, Gossip, Install, Page, PageAsk, Report, StepTo, View, Write}
pub use Rattle.volume_model.specs.Refusal.{refuse_if}
pub use Rattle.volume_model.specs.Node.{From, Hydrated, NodeAnswer, NodeStep, ack_of, born_node, contents_of, finished, gossip_of, has_configuration, hydrated, in_group, install_step, label_checks, lineage_epoch, most_copies, most_records, offered, or_not_enough, page_from, page_of, reaction, restarted, senders, take_record, whole_from, whole_node, written}
unfoldable pub use Rattle.volume_model.specs.Node.{gathered, installed, page_answer, page_checks}
pub use Rattle.volume_model.specs.Client.{ClientAnswer, ClientGroup, ClientStep, Count, Stage, born_group, counts_of, first_writer, group_of, group_point_of, has_cut, if_born, is_born, is_open, label_of, newly_at, no_group, place_configuration, place_of, reports_of, stays, unborn}
pub use Rattle.volume_model.specs.Client.Stage.{Installing, Reading, Unborn, Writing}
pub use Rattle.volume_model.specs.ClientPoints.{acknowledged, best, complete_of, complete_point, consistency_point_below, counted_by, durable_point, groups_now, is_consistency_point, raised, raised_from, raised_group, reaching, with_count}
pub use Rattle.volume_model.specs.ClientWriter.{Change, have_joined, is_change, is_last, is_transaction, issue_step, issued, issued_log, issued_writes, last_of_group_below, page_asked, record_of, resent, write_of}
pub use Rattle.volume_model.specs.ClientRecovery.{all_reports, born_client, cut_client, cut_step, fences, has_installed, has_read, installs, live_reported, log_reported, opened, report_taken, reported, to_install, writing}
pub use Rattle.volume_model.specs.ClientMessages.{ack_taken, are_places, is_for, is_later, later_group, later_in, later_unjoined, reread_group, taken, viewed, with_places}
pub use Rattle.volume_model.specs.World.{Authority, AuthorityStep, Event, Step, World, advance_step, advanced, after, after_step, assigned, configuration_of, deliver, event_result, groups_joined, grown, if_there, of_authority, of_client, of_node, opening, place_now, places_now, refreshed, results, run, step, take}
pub use Rattle.volume_model.specs.World.Event.{Advance, Assign, Cut, Deliver, Grow, Hydrate, Issue, Offer, Open, Read, Refresh, Resend, Restart, Take}
pub use Rattle.volume_model.specs.Outcome.{Find, Opened, finds_in, found_client, opened_client, writers_in}
pub use Rattle.volume_model.specs.Headline.{AcknowledgementsLast, Acknowledges, HasFound, KeepsCommits, PagesAreTrue, SaysTruePages, StaysSo, VolumeKeepsCommits, part_of}
pub use Rattle.volume_model.specs.Actor.{Acted, Actor, Agree, JoinedAlike, Keeps, acted, actor_of, authority_acted, client_acted, in_world, is_joined, named_by, node_acted, same_actor, state_in}
pub use Rattle.volume_model.specs.Actor.Actor.{TheAuthority}
pub use Rattle.volume_model.specs.StepResults.{IsOwn, IsOwnOfClient, Refuses, answer, makes, refusal}
pub use Rattle.volume_model.specs.Journal.{Goes, IsRun, before, events, last_from, last_of, world_at}
pub use Rattle.volume_model.specs.Judging.{Exact, IsNoted, IsRefused, Refusal, judged, placed, wanted}
pub use Rattle.volume_model.specs.Greatest.{IsGreatest}
pub use Rattle.volume_model.specs.Live.{EpochsGrow, Lives, RecordsLive}
pub use Rattle.volume_model.specs.Grounded.{CompletePointIsGreatest, GroupLinksFall, IsGrounded, IsGroundedNumber}
pub use Rattle.volume_model.specs.Grounded.IsGrounded.{from_none, from_one}
pub use Rattle.volume_model.specs.Leading.{AreOnTheWay, CutIsGreatest, IsFoundPoint, LeadsDown, LogFoundLeadsDown, RecordAtIsFirst, VolumeLinksFall}
pub use Rattle.volume_model.specs.Leading.LeadsDown.{at_zero, by_record}
pub use Rattle.volume_model.specs.Points.{CompleteAndDurablePointsAreGreatest, GroupPointIsGreatest, IsCovered, IsPointWithin, IsRaised, IsWrittenTo, NumbersGrow, PointsOfLogsAreGreatest}
pub use Rattle.volume_model.specs.Parts.{IsNumberOf, IsOfGroupWithin, IsOnBlock, PartsOfLogs}
pub use Rattle.volume_model.specs.Found.{FoundIsReported, IsReportedLive, NewestIsNewest}
pub use Rattle.volume_model.specs.Finds.{Carries, FindsLast, HasOneLineageAnEpoch, OneLineageAnEpoch, StaysFound}
pub use Rattle.volume_model.specs.Finds.Carries.{by_client, by_copy, by_install, by_node, by_report}
pub use Rattle.volume_model.specs.WorkedPlans.{FullAndTailCertified, MemberReplacedCertified, SixCopiesCertified, both_sixes, count_of, member_replaced, other_six, replacing, seven, six, six_copies, six_root, some_of, three, with_other}
pub use Rattle.volume_model.specs.Opens.{IsAtItsCut, OpensAtItsCut}
pub use Rattle.volume_model.specs.Orderly.{Brings, IsOrderly, LinksFall, RunsAreOrderly}
pub use Rattle.volume_model.specs.Orderly.Brings.{in_copy, in_gossip, in_install, in_log, in_node, in_report, in_write}
pub use Rattle.volume_model.specs.Reported.{KeepsMade, ReportsWereMade}
pub use Rattle.volume_model.specs.PieceLaws.{AreOnce, ArePiecesOf, CountTells, IsNumberOfPieces, IsPieceOf, KeepsPiecesOfOne, PiecesAreOfOne, PiecesMakeUp, PiecesUnite, united_copy}
pub use Rattle.volume_model.specs.Few.{Few, StepsAreFew, most_installs, records_in, records_said}
pub use Rattle.volume_model.specs.Raised.{EachGroupIsRaised}
pub use Rattle.volume_model.specs.PageBytes.{ComeInOrder, IsByteOfLast, IsLastToWrite, LieWithin, NodesRecordsInOrder, NoneWrites, PagesByteByByte, Writes}
pub use Rattle.volume_model.specs.NewGroups.{NewGroupsAreEmpty}
