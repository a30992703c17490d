-- Records that are one chain.
use Rattle.std.proofs.Common.{◌≡◌, ℕ, zero, suc, ◌+◌, true, List, [], ◌∷◌, ◌++◌, length, get_or, refl, sym, ap, ◌∙◌, subst, arith, eq-eqb}
use Rattle.volume_model.specs.Common.{Redo, scl, GroupLinksFall}
use Rattle.redo_record.specs.Common.{IsGroupChain}
use Rattle.segment_core.specs.Chains.{chain_end, is_line}
use Rattle.segment_core.specs.OneChain.{IsOneChain}
use Rattle.segment_core.proofs.Lines.{IsLine, line-to, line-point}

-- one record more, right behind the last
pub one_more_link : (n m : ℕ) (records : List Redo) (r : Redo) → IsOneChain n records m → r.prev_group ≡ m → IsOneChain n (records ++ r ∷ []) r.lsn
one_more_link n m [] r e is = (is ∙ sym e, refl)
one_more_link n m (s ∷ rest) r (e, f) is = (e, one_more_link s.lsn m rest r f is)

-- two chains, one behind the other
pub chain-append : (n k m : ℕ) (xs ys : List Redo) → IsOneChain n xs k → IsOneChain k ys m → IsOneChain n (xs ++ ys) m
chain-append n k m [] ys is more = subst (λ j. IsOneChain j ys m) (sym is) more
chain-append n k m (x ∷ xs) ys (e, is) more = (e, chain-append x.lsn k m xs ys is more)

-- records each of which but the first links to the one before it
pub linked-chain : (n k m : ℕ) (records : List Redo) → IsGroupChain records → k + 1 ≡ length records → ((d : Redo) → (get_or records 0 d).prev_group ≡ n) → ((d : Redo) → (get_or records k d).lsn ≡ m) → IsOneChain n records m
linked-chain n k m [] linked at first last = absurd (omega arith)
linked-chain n zero m (r ∷ []) linked at first last = (first r, last r)
linked-chain n (suc k) m (r ∷ []) linked at first last = absurd (omega arith)
linked-chain n zero m (r ∷ s ∷ rest) linked at first last = absurd (omega arith)
linked-chain n (suc k) m (r ∷ s ∷ rest) linked at first last = (
  first r,
  linked-chain r.lsn k m (s ∷ rest)
      (λ i d l. (let next : suc (i + 1) ≡ suc i + 1 = omega arith in ap (λ j. (get_or (r ∷ s ∷ rest) j d).prev_group) next ∙ linked (suc i) d (omega arith)))
      (omega arith) (λ d. linked 0 d (omega arith)) last,
)

-- one chain is a line, and its complete point is its end
chain-line : (n m : ℕ) (records : List Redo) → IsOneChain n records m → IsLine n records × (chain_end n records ≡ m)
chain-line n m [] is = (tt, is)
chain-line n m (s ∷ rest) (e, is) = let more : IsLine s.lsn rest × (chain_end s.lsn rest ≡ m) = chain-line s.lsn m rest is in ((omega arith, more.0), rw (eq-eqb s.prev_group n e) more.1)

pub one_chain : (records : List Redo) (m : ℕ) → GroupLinksFall records → IsOneChain 0 records m → (is_line 0 records ≡ true) × (m ≡ scl records)
one_chain records m fall is =
    let both : IsLine 0 records × (chain_end 0 records ≡ m) = chain-line 0 m records is in
    (line-to 0 records both.0, sym both.1 ∙ line-point records fall both.0)
