-- How an answer is given.
use Rattle.std.proofs.Common.{◌≡◌, ◌∙◌, ap₂, inl, inr, sym, subst, refl, ℕ, List, [], ◌∷◌, ◌++◌, Option}
use Rattle.std.proofs.KnownBytes.{Appends-trans}
use Rattle.commands.specs.Answer.{Answer}
use Rattle.commands.specs.Streams.{Delivers, Ends, Gets, HasPrinted, unwritten_line, writer_of}
use Rattle.commands.specs.Streams.Delivers.{given, unprinted}
use Rattle.commands.specs.declared.outputs.Output.{Output}

both_empty : (xs ys : List ℕ) → xs ++ ys ≡ [] → (xs ≡ []) × (ys ≡ [])
both_empty [] ys e = (refl, e)
both_empty (x ∷ xs) ys e = absurd cc

-- two texts, one after the other
pub gets_both : {W : Type 0} (contents : W → Option (List ℕ)) (old mid new : Output W) (xs ys : List ℕ) → Gets contents old mid xs → Gets contents mid new ys → Gets contents old new (xs ++ ys)
gets_both contents old mid new xs ys g h = record {
  added = Appends-trans (contents (writer_of old)) (contents (writer_of mid)) (contents (writer_of new)) xs ys g.added h.added;
  whole = h.whole ∙ g.whole;
  untouched = λ e. let empty = both_empty xs ys e in h.untouched empty.1 ∙ g.untouched empty.0;
}

-- the result, and then what is printed
pub delivered : {O E : Type 0} (out : O → Option (List ℕ)) (err : E → Option (List ℕ)) (answer : Answer) (status : ℕ) (out_old out_new : Output O) (err_old mid err_new : Output E)
    → Gets err err_old mid answer.err → HasPrinted out err answer.status answer.out status out_old out_new mid err_new → Delivers out err answer status out_old out_new err_old err_new
delivered out err answer status out_old out_new err_old mid err_new g (inl (is, gets, same)) = given is gets (subst (λ e. Gets err err_old e answer.err) (sym same) g)
delivered out err answer status out_old out_new err_old mid err_new g (inr (is, broken, inl line)) = unprinted is broken (inl (gets_both err err_old mid err_new answer.err unwritten_line g line))
delivered out err answer status out_old out_new err_old mid err_new g (inr (is, broken, inr too)) = unprinted is broken (inr too)

-- an answer that is due is one that is due otherwise
pub ends_by : {O E : Type 0} {out : O → Option (List ℕ)} {err : E → Option (List ℕ)} {P Q : Answer → Type 0} {status : ℕ} {out_old out_new : Output O} {err_old err_new : Output E}
    → Ends out err P status out_old out_new err_old err_new → ((answer : Answer) → P answer → Q answer) → Ends out err Q status out_old out_new err_old err_new
ends_by h f = record { answer = h.answer; due = f h.answer h.due; given = h.given }

-- the same of what was given under other names
pub ends_as : {O E : Type 0} (out : O → Option (List ℕ)) (err : E → Option (List ℕ)) (Due : Answer → Type 0) (status : ℕ) (out_old out_new : Output O) (err_old err_new : Output E) (wanted : ℕ) (text text' notes notes' : List ℕ)
    → text' ≡ text → notes' ≡ notes → Due (record { status = wanted; out = text; err = notes }) → Delivers out err (record { status = wanted; out = text'; err = notes' }) status out_old out_new err_old err_new
    → Ends out err Due status out_old out_new err_old err_new
ends_as out err Due status out_old out_new err_old err_new wanted text text' notes notes' e f due was =
    let as_answer : List ℕ → List ℕ → Answer = λ t n. record { status = wanted; out = t; err = n } in
    record { answer = as_answer text' notes'; due = subst Due (ap₂ as_answer (sym e) (sym f)) due; given = was }
