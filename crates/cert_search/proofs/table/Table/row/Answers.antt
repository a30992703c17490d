use Rattle.std.proofs.Common.{◌≡◌, ◌+◌, ◌-◌, ◌<◌, ◌%◌, length, ap, ◌∙◌, mod-lt, arith}
use Rattle.std.proofs.Math.ListN.{length-set}
use Rattle.cert_search.specs.Dealing.{own_plain, names_in, row_plain, fresh, fresh_part}
use Rattle.cert_search.proofs.Tables.{made_at, plain_still, part_more}
use Rattle.cert_search.proofs.Lents.{lent_step, lent_done}
use Rattle.cert_search.proofs.table.Table.row.Goals as goal

pub index_mut-own-requires : goal.index_mut-own-requires
index_mut-own-requires c = let t = c.loop-k.self in omega (arith, t.count, mod-lt (c.args.which + c.loop-k.k) t.some)

pub invariant_of-self : goal.invariant_of-self
invariant_of-self c =
    let t = c.loop-k.self in
    record {
      some = t.some;
      few = t.few;
      count = length-set t.owns.items ((c.args.which + c.loop-k.k) % t.workers) c.steal_handle.new.self ∙ t.count;
    }

pub loop-k-preserved : goal.loop-k-preserved
loop-k-preserved c =
    let t = c.loop-k.self in
    let was = c.args.self.now in
    let inv = c.loop-k.invariant in
    let d = (c.args.which + c.loop-k.k) % t.workers in
    let o = c.index_mut-own.result.now in
    let lt : d < length t.owns.items = omega (arith, t.count, mod-lt (c.args.which + c.loop-k.k) t.some) in
    let turn = ap (λ w. (c.args.which + c.loop-k.k) % w) inv.workers in
    record {
      workers = inv.workers;
      same = plain_still d t.owns.items o c.steal_handle.new.self lt c.index_mut-own.ensures.value c.steal_handle.ensures.plain ∙ inv.same;
      lent = λ below. lent_step was.workers c.args.which below c.loop-k.k d was.owns.items t.owns.items o c.steal_handle.new.self (omega arith) (omega (arith, inv.workers)) turn lt c.index_mut-own.ensures.value c.in_ok-steal_handle.ensures.lent (inv.lent below);
      row = λ claims filled.
          let mine : own_plain o ≡ fresh (names_in was.owns.items) claims was.workers d =
          made_at own_plain (fresh (names_in was.owns.items) claims was.workers) was.workers t.owns.items d o (inv.same ∙ filled) (omega (arith, lt, t.count, inv.workers)) c.index_mut-own.ensures.value in
          ap row_plain c.in_ok-push.ensures.items
          ∙ part_more (names_in was.owns.items) claims was.workers c.args.which c.loop-k.k d o c.in_ok-steal_handle.field-0 c.loop-k.row.items (omega arith) turn mine c.in_ok-steal_handle.ensures.steal_handle.0 c.in_ok-steal_handle.ensures.steal_handle.1 (inv.row claims filled);
    }

pub returns-in_err-steal_handle-clause-same : goal.returns-in_err-steal_handle-clause-same
returns-in_err-steal_handle-clause-same c =
    let t = c.loop-k.self in
    let lt : (c.args.which + c.loop-k.k) % t.workers < length t.owns.items = omega (arith, t.count, mod-lt (c.args.which + c.loop-k.k) t.some) in
    plain_still ((c.args.which + c.loop-k.k) % t.workers) t.owns.items c.index_mut-own.result.now c.steal_handle.new.self lt c.index_mut-own.ensures.value c.steal_handle.ensures.plain ∙ c.loop-k.invariant.same

pub returns-in_err-push-clause-same : goal.returns-in_err-push-clause-same
returns-in_err-push-clause-same c =
    let t = c.loop-k.self in
    let lt : (c.args.which + c.loop-k.k) % t.workers < length t.owns.items = omega (arith, t.count, mod-lt (c.args.which + c.loop-k.k) t.some) in
    plain_still ((c.args.which + c.loop-k.k) % t.workers) t.owns.items c.index_mut-own.result.now c.steal_handle.new.self lt c.index_mut-own.ensures.value c.steal_handle.ensures.plain ∙ c.loop-k.invariant.same

pub returns-clause-row : goal.returns-clause-row
returns-clause-row c = λ claims filled.
    let inv = c.loop-k.invariant in
    let end : c.loop-k.k ≡ c.args.self.now.workers = omega (arith, inv.workers, c.args.self.now.some) in
    inv.row claims filled ∙ ap (λ k. fresh_part (names_in c.args.self.now.owns.items) claims c.args.self.now.workers c.args.which (k - 1)) end

pub returns-clause-lent : goal.returns-clause-lent
returns-clause-lent c =
    let inv = c.loop-k.invariant in
    let some = c.args.self.now.some in
    lent_done c.args.self.now.workers c.args.which c.requires c.loop-k.k c.args.self.now.owns.items c.loop-k.self.owns.items (omega (arith, inv.workers)) (omega (arith, inv.workers, some)) (inv.lent c.requires)
