use Rattle.std.proofs.Common.{◌≡◌, ◌+◌, [], ◌∷◌, All, vec_len}
use Rattle.crossbeam_channel.specs.Claims.{view, IsSeatAt}
use Rattle.crossbeam_channel.specs.Ends.{receives_on, ruled_capacity, sends_on}
use Rattle.node_fleet.proofs.mailbox.Mailbox.new.Given as goal

abbrev pub invariant-loop : goal.invariant-loop
invariant-loop l = record {
  empty : vec_len l.made ≡ 0;
  counted : (view l.last).0 ≡ l.counter;
  spare : (view l.last).1.0 + 1 ≡ l.counter;
  one : (view l.last).1.1 ≡ [] ∷ [];
  of_channel : IsSeatAt (sends_on l.to) l.last;
  one_channel : receives_on l.from ≡ sends_on l.to;
  room : ruled_capacity (sends_on l.to) ≡ l.fn.capacity;
}

abbrev pub invariant-loop-2 : goal.invariant-loop-2
invariant-loop-2 l = record {
  counted : vec_len l.made + 1 ≡ l.counter;
  known : (view l.last).0 ≡ l.fn.seats;
  spare : (view l.last).1.0 + l.counter ≡ l.fn.seats;
  one : (view l.last).1.1 ≡ [] ∷ [];
  of_channel : IsSeatAt (sends_on l.to) l.last;
  one_channel : receives_on l.from ≡ sends_on l.to;
  room : ruled_capacity (sends_on l.to) ≡ l.fn.capacity;
  all_made : All (λ s. IsSeatAt (sends_on l.to) s.pass × (view s.pass ≡ (l.fn.seats, (0, [] ∷ [])))) l.made.items;
}
