use Rattle.std.proofs.Common.{◌≡◌, List, length, vec_len, sym, ap, ◌∙◌, subst, arith, rules}
use Rattle.std.proofs.lemmas.List.{length-map}
use Rattle.board.specs.Board.{IsBoard}
use Rattle.volume_model.specs.Common.{Plan, events}
use Rattle.volume_model.specs.Journal.{Entry}
use Rattle.plan.specs.Common.{checked_model}
use Rattle.world.specs.Outcomes.{KeepsPromises}
use Rattle.journal.specs.PassSteps.{NamesEarlier}
use Rattle.node_fleet.specs.Journals.{entries_in}
use Rattle.node_fleet.specs.Passes.{seat_of}
use Rattle.node_fleet.proofs.Ending.{mail_kept, mail_whole}
use Rattle.node_fleet.proofs.fleet.Fleet.close.Goals as goal

pub returns-clause-before : goal.returns-clause-before
returns-clause-before g c = subst (λ (es : List Entry). NamesEarlier g.L.Site.plan es) (sym c.of.ensures) c.replays.ensures.before

pub returns-clause-promises : goal.returns-clause-promises
returns-clause-promises g c =
    let es = entries_in c.of.result in
    subst (λ (p : Plan). KeepsPromises p (events es)) (ap checked_model c.deref.ensures ∙ c.args.self.plan_is) (c.promised.ensures (events es))

pub end-requires-clause-all : goal.end-requires-clause-all
end-requires-clause-all g c =
    let passes = c.args.passes.items in
    let count : vec_len c.args.passes ≡ length passes = search rules in
    omega (arith, ap length c.take_back-share.ensures.seats, length-map passes seat_of, count, c.requires.0, c.args.self.board_seats)

pub end-requires-2-clause-whole : goal.end-requires-2-clause-whole
end-requires-2-clause-whole g c =
    let passes = c.args.passes.items in
    let count : vec_len c.args.passes ≡ length passes = search rules in
    mail_whole c.args.self.mail passes c.take_back-share.result.mail c.take_back-share.ensures.mail g.L.Ledger.parts c.args.self.mail_new (sym count ∙ c.requires.0)

pub returns-clause-board : goal.returns-clause-board
returns-clause-board g c = (c.end.result, subst (IsBoard c.end.result) c.take_back-share.ensures.seats c.end.ensures)

pub returns-clause-mail : goal.returns-clause-mail
returns-clause-mail g c = mail_kept c.args.self.mail c.args.passes.items c.take_back-share.result.mail c.take_back-share.ensures.mail g.L.Site.plan c.args.self.mail_nodes c.end-2.ensures
