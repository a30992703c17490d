use Rattle.std.proofs.Common.{◌≡◌, ◌≤◌, List, length, vec_len, sym, ap, ◌∙◌, subst, arith, rules, get_or}
use mathlib.Core.List.{IsPrefix}
use Rattle.volume_model.proofs.Judges.{refused_longer}
use Rattle.journal.specs.declared.entry.Entry.{Entry}
use Rattle.journal.specs.Entries.{entry_of, entries_of, note_of}
use Rattle.journal.specs.Fronts.{front_log, log_of}
use Rattle.journal.specs.PassSteps.{made}
use Rattle.journal.specs.Tokens.{shown}
use Rattle.journal.proofs.Entered.{entries_begin, length-entries}
use Rattle.journal.proofs.Steps.{stands_longer}
use Rattle.journal.proofs.Tokens.{length-shown}
use Rattle.journal.proofs.log.Log.catch_up.Goals as goal

pub invariant_of-pass : goal.invariant_of-pass
invariant_of-pass g c =
    let log = c.args.self.now in
    let pass = c.args.pass.now in
    let plan = g.L.Site.plan in
    let old = front_log pass.seen in
    let now = front_log c.meet.new.front in
    let whole : now ≡ log_of log.history.opened = c.meet.ensures.front.0 in
    let long : length (shown log.entries.items) ≡ vec_len log.entries = length-shown log.entries.items ∙ search rules in
    let begin = entries_begin old now (subst (λ (l : List Entry). IsPrefix old l) (sym whole) c.meet.ensures.begins) in
    let count : length now ≡ vec_len log.entries = ap length (whole ∙ sym log.same) ∙ long in
    let room : length now ≤ length g.L.Site.cells = omega (arith, count, log.cells) in
    let few : length (entries_of now) ≤ length g.L.Site.cells = omega (arith, length-entries now, room) in
    record {
      board = pass.board;
      no_slot = pass.no_slot;
      history = c.meet.ensures.front.1 ∙ pass.history;
      room = room;
      stand = λ k d lt. let h = get_or pass.steps.items k d in stands_longer plan (entries_of old) (entries_of now) (made h.entry.now.cell (entry_of h.entry.now) h.entry.now.durable) begin (pass.stand k d lt);
      refused = λ k d lt. refused_longer plan g.L.Site.slots (length g.L.Site.cells) (entries_of old) (entries_of now) (note_of (get_or pass.notes.items k d)) begin few (pass.refused k d lt);
      part = pass.part;
      counted = pass.counted;
    }
