-- What a reader leaves, and a reading that leaves nothing.
use Rattle.std.proofs.Common.{◌≡◌, List, [], ◌∷◌, ◌++◌, refl, sym, ap, subst, ◌∙◌, append_assoc, append-nil, Ok, Err, IfOk, IfErr, OnOk, MatchResult, IsErrAnd}
use Rattle.std.proofs.Common.{Result}
use Rattle.std.proofs.lemmas.Result.{err_from_is_err_and}
use Rattle.sg_model.specs.declared.refusal.Fault.{Fault}
use Rattle.sg_model.specs.declared.refusal.Fault.TheVariants.{Refused, NoMemory}
use Rattle.sg_model.specs.declared.refusal.Refusal.{Refusal}
use Rattle.sg_model.specs.Faults.{OrNoMemory}
use Rattle.sg_reader.specs.Kept.{Kept}
use Rattle.sg_reader.specs.Ended.{AtTrailing, Fails, IsRest, IsTrailing, RefusesAlone, WhileRead}

-- what holds of an error holds of the exit of a `?` that gives it
pub failed : {T E : Type 0} {x : E} (r : Result T E) (P : E → Type 0) → IsErrAnd r (λ y. y ≡ x) → P x → IfErr r P
failed r P is h = let p = err_from_is_err_and r is in rw (p.1, p.2) h

-- nothing was read
pub rest-all : (records : List Kept) → IsRest records records
rest-all records = record { read = []; split = refl }

-- where nothing is left all was read
pub rest-none : (records rest : List Kept) → rest ≡ [] → IsRest records rest
rest-none records rest none = record { read = records; split = sym (append-nil records) ∙ ap (λ (l : List Kept). records ++ l) (sym none) }

-- what stands behind a record
pub rest-behind : (records body : List Kept) (r : Kept) (rest : List Kept) → records ≡ body ++ r ∷ rest → IsRest records rest
rest-behind records body r rest split = record { read = body ++ r ∷ []; split = split ∙ sym (append_assoc body (r ∷ []) rest) }

-- what failed behind some records failed with them
pub fails-on : (P Q : Refusal → List Kept → Type 0) (records read more rest : List Kept) → records ≡ read ++ more → ((x : Refusal) → P x rest → Q x rest)
    → (e : Fault) → Fails P more rest e → Fails Q records rest e
fails-on P Q records read more rest split to (Refused x) bad = to x bad
fails-on P Q records read more rest split to NoMemory left = record {
  read = read ++ left.read;
  split = split ∙ ap (λ (l : List Kept). read ++ l) left.split ∙ sym (append_assoc read left.read rest);
}

-- what failed, without what it left
pub or-no-memory : (P : Refusal → List Kept → Type 0) (R : Refusal → Type 0) (records rest : List Kept) → ((x : Refusal) → P x rest → R x) → (e : Fault)
    → Fails P records rest e → OrNoMemory R e
or-no-memory P R records rest to (Refused x) bad = to x bad
or-no-memory P R records rest to NoMemory left = tt

module _ {X : Type 0} (reads : X → List Kept → Type 0) (refuses : Refusal → List Kept → Type 0) (records left rest : List Kept) where
  -- what was read where nothing is left
  pub alone-reads : (given result : Result X Fault) → IfOk given (λ x. reads x left) → IfOk result (λ x. given ≡ Ok x) → OnOk result (left ≡ [])
      → IfOk result (λ x. reads x [])
  alone-reads given (Ok x) has same none = subst (reads x) none (subst (λ (r : Result X Fault). IfOk r (λ y. reads y left)) same has)
  alone-reads given (Err e) has same none = tt

  -- a reading that failed, or left a record
  pub alone-refuses : (given result : Result X Fault) → IfOk given (λ x. reads x left) → IfErr given (Fails refuses records left)
      → IfErr result (λ e. MatchResult given (λ x. Fails (IsTrailing left) left rest e) (λ why. (e ≡ why) × (rest ≡ left)))
      → IfErr result (OrNoMemory (RefusesAlone reads refuses))
  alone-refuses given (Ok x) has fails bad = tt
  alone-refuses (Ok x) (Err (Refused e)) has fails bad = AtTrailing x left rest has bad
  alone-refuses (Ok x) (Err NoMemory) has fails bad = tt
  alone-refuses (Err why) (Err e) has fails bad = subst (OrNoMemory (RefusesAlone reads refuses)) (sym bad.0) (by why fails)
    where
      by : (f : Fault) → Fails refuses records left f → OrNoMemory (RefusesAlone reads refuses) f
      by (Refused x) h = WhileRead left h
      by NoMemory h = tt
