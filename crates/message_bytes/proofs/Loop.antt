-- Reading lists, as loops do.
use Rattle.std.proofs.Common.{◌≡◌, ℕ, suc, ◌-◌, ◌+◌, ◌≤◌, ◌<◌, List, [], ◌∷◌, ◌++◌, Result, Ok, refl, sym, ap, ◌∙◌, arith}
use Rattle.volume_model.specs.declared.fault.Fault.{Fault}
use Rattle.volume_model.specs.Common.{Fails, ◌>>=◌}
use Rattle.message_bytes.specs.Contents.{Read, redo_at, entry_at, with_entry, entries_at, with_next, records_at}
use Rattle.message_bytes.specs.Reading.{place_at, places_at}
use Rattle.message_bytes.proofs.Handed.{Fails-at}
use Rattle.std.proofs.lemmas.Grind.{common_steps}

-- all reads so many items behind those that are kept: one reads an item, and join adds it
pub record IsReading {X K : Type 0} (one : List ℕ → Read X) (join : K → X → Result K Fault) (all : ℕ → K → List ℕ → Read K) : Type 0 where
  pub none : (kept : K) (bytes : List ℕ) → all 0 kept bytes ≡ Ok (kept, bytes)
  pub more : (n : ℕ) (kept : K) (bytes : List ℕ) → all (suc n) kept bytes ≡ (one bytes >>= λ x. join kept x.0 >>= λ own. all n own x.1)

pub entries : IsReading entry_at with_entry entries_at
unfolding entries_at
entries = record { none = λ kept bytes. refl; more = λ n kept bytes. refl }

pub records : IsReading redo_at with_next records_at
unfolding records_at
records = record { none = λ kept bytes. refl; more = λ n kept bytes. refl }

pub places : IsReading place_at (λ kept place. Ok (kept ++ place ∷ [])) places_at
unfolding places_at
places = record { none = λ kept bytes. refl; more = λ n kept bytes. refl }

module _ {X K : Type 0} {one : List ℕ → Read X} {join : K → X → Result K Fault} {all : ℕ → K → List ℕ → Read K} (reads : IsReading one join all) where
  opened : (count i : ℕ) (kept : K) (bytes : List ℕ) (total : Read K) → i < count → all (count - i) kept bytes ≡ total
      → (one bytes >>= λ x. join kept x.0 >>= λ own. all (count - (i + 1)) own x.1) ≡ total
  opened count i kept bytes total lt so_far =
      let k : count - i ≡ suc (count - (i + 1)) = omega arith in
      sym (reads.more (count - (i + 1)) kept bytes) ∙ ap (λ n. all n kept bytes) (sym k) ∙ so_far

  -- an item is added
  pub read-on : (count i : ℕ) (kept own : K) (bytes after : List ℕ) (x : X) (total : Read K) → i < count → one bytes ≡ Ok (x, after) → join kept x ≡ Ok own
      → all (count - i) kept bytes ≡ total → all (count - (i + 1)) own after ≡ total
  read-on count i kept own bytes after x total lt read added so_far = rw (read, added) at (opened count i kept bytes total lt so_far)

  -- an item can't be read
  pub read-short : (f : Fault) (count i : ℕ) (kept : K) (bytes : List ℕ) (total : Read K) → i < count → Fails f (one bytes) → all (count - i) kept bytes ≡ total → Fails f total
  read-short f count i kept bytes total lt fails so_far = Fails-at f (one bytes) total (λ e. sym (rw e at (opened count i kept bytes total lt so_far))) fails

  -- an item can't be added
  pub read-bad : (f : Fault) (count i : ℕ) (kept : K) (bytes after : List ℕ) (x : X) (total : Read K) → i < count → one bytes ≡ Ok (x, after) → Fails f (join kept x)
      → all (count - i) kept bytes ≡ total → Fails f total
  read-bad f count i kept bytes after x total lt read fails so_far = Fails-at f (join kept x) total (λ e. sym (rw (read, e) at (opened count i kept bytes total lt so_far))) fails

  -- all items are read
  pub read-done : (count i : ℕ) (kept : K) (bytes : List ℕ) (total : Read K) → count ≤ i → all (count - i) kept bytes ≡ total → total ≡ Ok (kept, bytes)
  read-done count i kept bytes total le so_far = grind (arith, common_steps)
