use Rattle.std.proofs.Common.{◌≡◌, ◌+◌, ◌≤◌, List, length, length-append, vec_len, map, All, [], ◌∷◌, ◌++◌, Bool, true, false, MatchBool, refl, sym, ap, ◌∙◌, subst, arith, rules, get_or}
use mathlib.Core.List.{IsPrefix}
use Rattle.volume_model.specs.Common.{same_actor, Goes, world_at, World, groups_joined}
use Rattle.volume_model.proofs.Judges.{refused_longer}
use Rattle.journal.specs.declared.entry.Entry.{Entry}
use Rattle.journal.specs.declared.pass.PassStep.{PassStep}
use Rattle.journal.specs.Actors.{seen_who}
use Rattle.journal.specs.Entries.{entry_of, entries_of, note_of}
use Rattle.journal.specs.Fronts.{front_log, log_of}
use Rattle.journal.specs.LastEntries.{last_known, or_zero}
use Rattle.wire.specs.Common.{listed}
use Rattle.journal.specs.PassSteps.{made, Stands}
use Rattle.journal.specs.Tokens.{shown}
use Rattle.world.specs.Events.{event_of}
use Rattle.journal.specs.Joined.{joined_after}
use Rattle.journal.proofs.Joining.{joined_step}
use Rattle.journal.proofs.Maps.{map-length}
use Rattle.journal.proofs.Entered.{entries_begin, entries_messages, entries_world, entries_push, entries_run, firsts_push, length-entries}
use Rattle.journal.proofs.Each.{all_push}
use Rattle.journal.proofs.Steps.{stands_longer, stands_new, newest_push}
use Rattle.journal.proofs.Tokens.{length-shown, shown_push}
use Rattle.journal.proofs.log.Log.append.Goals as goal

length_more : (es now : List Entry) (x : Entry) → now ≡ es ++ x ∷ [] → length now ≡ length es + 1
length_more es now x e = omega (arith, ap length e, length-append es (x ∷ []))

on_both : (b : Bool) {P Q R S : Type 0} → (P → R) → (Q → S) → MatchBool b P Q → MatchBool b R S
on_both true f g h = f h
on_both false f g h = g h

-- the lists have room for all cells
pub push_reserved-requires-2 : goal.push_reserved-requires-2
push_reserved-requires-2 g c =
    let log = c.args.self.now in
    let es = shown log.entries.items in
    let kept : length log.firsts.items ≡ length es = ap length log.firsts_are ∙ map-length (λ (e : Entry). e.first) es in
    let firsts : length log.firsts.items ≡ vec_len log.firsts = search rules in
    let long : length es ≡ vec_len log.entries = length-shown log.entries.items ∙ search rules in
    omega (arith, log.wide, log.cells, c.requires.cell, kept, firsts, long)

pub push_reserved-requires-3 : goal.push_reserved-requires-3
push_reserved-requires-3 g c =
    let log = c.args.self.now in
    omega (arith, log.wide, log.cells, c.requires.cell)

pub invariant_of-pass : goal.invariant_of-pass
invariant_of-pass g c =
    let log = c.args.self.now in
    let pass = c.args.pass.now in
    let plan = g.L.Site.plan in
    let es = shown log.entries.items in
    let x = c.args.entry in
    let now = front_log c.front.result in
    let old : log_of log.history.opened ≡ es = sym log.same in
    let longer : now ≡ es ++ x ∷ [] = c.front.ensures.front.0 ∙ c.add.ensures.0 ∙ (λ i. old i ++ c.write-entry.ensures.value i ∷ []) in
    let p : IsPrefix (front_log pass.seen) now = (x ∷ [], ap (λ (l : List Entry). l ++ x ∷ []) c.requires.settled ∙ sym longer) in
    let begin = entries_begin (front_log pass.seen) now p in
    let long : length es ≡ vec_len log.entries = length-shown log.entries.items ∙ search rules in
    let count : length now ≡ vec_len log.entries + 1 = omega (arith, length_more es now x longer, long) in
    let room : length now ≤ length g.L.Site.cells = omega (arith, count, log.cells, c.requires.cell) in
    let few : length (entries_of now) ≤ length g.L.Site.cells = omega (arith, length-entries now, room) in
    let place : c.write-entry.result.now.cell ≡ length (entries_of es) = ap (λ (y : Entry). y.cell) c.write-entry.ensures.value ∙ c.requires.place ∙ sym long ∙ sym (length-entries es) in
    let shows = ap (λ (y : Entry). y.durable) c.write-entry.ensures.value ∙ c.requires.durable in
    let here = stands_new plan (entries_of es) (entries_of now) (entry_of x) (entry_of c.write-entry.result.now) c.write-entry.result.now.cell c.write-entry.result.now.durable (entries_push es now x longer) place (ap entry_of c.write-entry.ensures.value) shows in
    let stands_in = λ (h : PassStep g.row.L.Denot). Stands plan (entries_of now) (made h.entry.now.cell (entry_of h.entry.now) h.entry.now.durable) in
    record {
      board = pass.board;
      no_slot = pass.no_slot;
      history = c.front.ensures.front.1 ∙ c.add.ensures.1 ∙ log.history.history;
      room = room;
      stand = subst (All stands_in) (sym c.push_reserved.ensures.items)
          (all_push stands_in pass.steps.items _ (λ k d lt. let h = get_or pass.steps.items k d in stands_longer plan (entries_of (front_log pass.seen)) (entries_of now) (made h.entry.now.cell (entry_of h.entry.now) h.entry.now.durable) begin (pass.stand k d lt)) here);
      refused = λ k d lt. refused_longer plan g.L.Site.slots (length g.L.Site.cells) (entries_of (front_log pass.seen)) (entries_of now) (note_of (get_or pass.notes.items k d)) begin few (pass.refused k d lt);
      part = c.add-2.ensures.parts ∙ pass.part;
      counted = omega (arith, c.add-2.ensures.amount, pass.counted, c.push_reserved.ensures.len);
    }

pub invariant_of-self : goal.invariant_of-self
invariant_of-self g c =
    let log = c.args.self.now in
    let plan = g.L.Site.plan in
    let es = shown log.entries.items in
    let x = c.args.entry in
    let e = c.push_reserved-3.ensures.items in
    let ts = c.push_reserved-3.new.self.items in
    let n : vec_len c.push_reserved-3.new.self ≡ vec_len log.entries + 1 = omega (arith, c.push_reserved-3.ensures.len) in
    let longer : shown ts ≡ es ++ x ∷ [] = ap shown e ∙ shown_push log.entries.items c.write-entry.result ∙ ap (λ (y : Entry). es ++ y ∷ []) c.write-entry.ensures.value in
    let long : length es ≡ vec_len log.entries = length-shown log.entries.items ∙ search rules in
    let old : log_of log.history.opened ≡ es = sym log.same in
    let first : x.first ≡ length (world_at plan (entries_of es)).messages = c.requires.first ∙ log.messages_are in
    let goes : Goes plan (world_at plan (entries_of es)) (entry_of x) = (c.requires.goes, first) in
    let at : c.len-cell.result ≡ length (entries_of es) = omega (arith, long, length-entries es, c.len-cell.ensures) in
    let actor = c.of-who.ensures in
    let more : c.len-count.result ≡ length (listed x.made) = c.len-count.ensures in
    record {
      same = longer ∙ sym (c.front-whole.ensures.same.0 ∙ c.front.ensures.same.0 ∙ c.add.ensures.0 ∙ (λ i. old i ++ c.write-entry.ensures.value i ∷ []));
      cells = omega (arith, log.cells, c.write-entry.ensures.rest, n);
      wide = (omega (arith, log.wide, c.push_reserved-3.ensures.capacity), omega (arith, log.wide, c.push_reserved-2.ensures.capacity));
      run = entries_run plan es (shown ts) x longer log.run goes;
      firsts_are = c.push_reserved-2.ensures.items ∙ (λ i. log.firsts_are i ++ sym c.requires.first i ∷ []) ∙ sym (firsts_push es x) ∙ ap (map (λ (y : Entry). y.first)) (sym longer);
      messages_are = omega (arith, c.total.ensures, c.requires.first, more, entries_messages plan es (shown ts) x longer goes);
      joined_are = c.joined_after-grown.ensures ∙ ap (λ n. joined_after n (event_of x.event)) log.joined_are
          ∙ sym (joined_step plan (world_at plan (entries_of es)) (event_of x.event) _ c.requires.goes) ∙ ap (λ (w : World). groups_joined w.authority) (sym (entries_world plan es (shown ts) x longer));
      newest = λ other. newest_push (seen_who c.of-who.result) other (entries_of es) (entries_of (shown ts)) (entry_of x) (last_known c.set.new.self other) c.len-cell.result (entries_push es (shown ts) x longer) actor at (same_actor (seen_who c.of-who.result) other) refl
          (on_both (same_actor (seen_who c.of-who.result) other) (λ q. ap or_zero q) (λ q. ap or_zero q ∙ log.newest other) (c.set.ensures other));
      counted = omega (arith, c.add-2.ensures.total, log.counted, n);
    }

pub returns-clause-front : goal.returns-clause-front
returns-clause-front g c =
    let log = c.args.self.now in
    let es = shown log.entries.items in
    let x = c.args.entry in
    let old : log_of log.history.opened ≡ es = sym log.same in
    let longer : shown c.push_reserved-3.new.self.items ≡ es ++ x ∷ [] = ap shown c.push_reserved-3.ensures.items ∙ shown_push log.entries.items c.write-entry.result ∙ ap (λ (y : Entry). es ++ y ∷ []) c.write-entry.ensures.value in (
      c.front-whole.ensures.front.0 ∙ c.front.ensures.same.0 ∙ c.add.ensures.0 ∙ (λ i. old i ++ c.write-entry.ensures.value i ∷ []) ∙ sym longer,
      c.front-whole.ensures.front.1 ∙ c.front.ensures.same.1 ∙ c.add.ensures.1 ∙ log.history.history,
    )
