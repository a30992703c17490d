use Rattle.std.proofs.Common.{ap, sym, ◌∙◌, map, suc, arith, slice_get}
use Rattle.std.specs.Vec.Iter.{into_iter_items}
use Rattle.cert_search.specs.NamedViews.{handle_named}
use Rattle.cert_search.specs.Settled.{taken_back}
use Rattle.cert_search.proofs.Returns.{tied_within, tied_name, gather_names, gather_step}
use Rattle.cert_search.proofs.taking_back.gather.Goals as goal

pub index_mut-own-requires : goal.index_mut-own-requires
index_mut-own-requires c =
    let tied = ap (λ l. slice_get l c.in-Some.steal_handle.which) c.loop-steal_handle.invariant.names ∙ c.loop-steal_handle.invariant.tied 0 (handle_named c.in-Some.steal_handle) (ap (λ l. slice_get (map handle_named l) 0) c.in-Some.ensures.steps.0) in
    let lt = tied_within c.loop-steal_handle.owns.items (handle_named c.in-Some.steal_handle) tied in
    omega (arith, lt)

pub take_back-requires : goal.take_back-requires
take_back-requires c =
    let tied = ap (λ l. slice_get l c.in-Some.steal_handle.which) c.loop-steal_handle.invariant.names ∙ c.loop-steal_handle.invariant.tied 0 (handle_named c.in-Some.steal_handle) (ap (λ l. slice_get (map handle_named l) 0) c.in-Some.ensures.steps.0) in
    tied_name c.loop-steal_handle.owns.items (handle_named c.in-Some.steal_handle) c.index_mut-own.result.now tied c.index_mut-own.ensures.value

pub loop-steal_handle-preserved : goal.loop-steal_handle-preserved
loop-steal_handle-preserved c =
    let inv = c.loop-steal_handle.invariant in
    let owns = c.loop-steal_handle.owns.items in
    let first = c.args.owns.now.items in
    let s = handle_named c.in-Some.steal_handle in
    let rest = map handle_named (into_iter_items c.next.new.self) in
    let all = map handle_named c.args.handles.items in
    let steps = c.in-Some.ensures.steps.0 in
    let tied = ap (λ l. slice_get l c.in-Some.steal_handle.which) c.loop-steal_handle.invariant.names ∙ c.loop-steal_handle.invariant.tied 0 (handle_named c.in-Some.steal_handle) (ap (λ l. slice_get (map handle_named l) 0) c.in-Some.ensures.steps.0) in
    let lt = tied_within owns s tied in
    record {
      names = gather_names first owns c.index_mut-own.result.now c.take_back.new.self s rest all lt c.index_mut-own.ensures.value c.take_back.ensures.same c.take_back.ensures.both ∙ inv.names;
      tied = λ k t e. inv.tied (suc k) t (ap (λ l. slice_get (map handle_named l) (suc k)) steps ∙ e);
      taken = gather_step first owns c.index_mut-own.result.now c.take_back.new.self s rest all lt c.index_mut-own.ensures.value c.take_back.ensures.same c.take_back.ensures.both
          (λ d v e. let t = inv.taken d v e in (t.0, t.1, ap (λ l. taken_back d t.0 (map handle_named l)) (sym steps) ∙ t.2));
    }
