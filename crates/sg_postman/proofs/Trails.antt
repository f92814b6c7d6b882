-- The laws of trails.
use Rattle.std.proofs.Common.{◌≡◌, ◌∙◌, sym, ap, refl, ℕ, ◌+◌, List, [], ◌∷◌, ◌++◌, count_by, cond, ◌==◌, suc, ◌<◌, ◌-◌, length, get_or, arith, eqb}
use Rattle.std.proofs.lemmas.List.Sums.{sum_by-append, sum_by-cons}
use Rattle.sg_graph.specs.Web.{Graph}
use Rattle.sg_graph.specs.Walk.{IsWebWalk, Leads}
use Rattle.sg_postman.specs.declared.steps.Step.{Step}
use Rattle.sg_postman.specs.Tour.{AreSteps, edges_of, end_of, uses_of}

-- steps end where the last of them leads to
pub end-append : (x : ℕ) (ss : List Step) (s : Step) → end_of x (ss ++ s ∷ []) ≡ s.to
end-append x [] s = refl
end-append x (t ∷ ss) s = end-append t.to ss s

-- the same, by the place of the last step
pub end_last : (x : ℕ) (ss : List Step) (d : Step) → 0 < length ss → end_of x ss ≡ (get_or ss (length ss - 1) d).to
end_last x [] d l = absurd (omega arith)
end_last x (s ∷ []) d l = refl
end_last x (s ∷ t ∷ ss) d l =
    let e : length (s ∷ t ∷ ss) - 1 ≡ suc (length (t ∷ ss) - 1) = omega arith in
    end_last s.to (t ∷ ss) d (omega arith) ∙ ap (λ k. (get_or (s ∷ t ∷ ss) k d).to) (sym e)

module _ (g : Graph) where
  -- one step more, along its edge from where one stands
  pub trail-append : (x : ℕ) (ss : List Step) (s : Step) → AreSteps g x ss → Leads g s.edge (end_of x ss) s.to → AreSteps g x (ss ++ s ∷ [])
  trail-append x [] s t l = (l, tt)
  trail-append x (r ∷ ss) s t l = (t.0, trail-append r.to ss s t.1 l)

  -- the last step, and those before it
  pub trail-last : (x : ℕ) (ss : List Step) (s : Step) → AreSteps g x (ss ++ s ∷ []) → AreSteps g x ss × Leads g s.edge (end_of x ss) s.to
  trail-last x [] s t = (tt, t.0)
  trail-last x (r ∷ ss) s t = let b : AreSteps g r.to ss × Leads g s.edge (end_of r.to ss) s.to = trail-last r.to ss s t.1 in ((t.0, b.0), b.1)

-- an edge stands once more where the step is over it
pub times-append : (e : ℕ) (ss : List Step) (s : Step) → uses_of e (ss ++ s ∷ []) ≡ uses_of e ss + uses_of e (s ∷ [])
times-append e ss s = sum_by-append (λ (r : Step). cond (r.edge == e) 1 0) ss (s ∷ [])

-- the edges of a trail are a walk
pub trail_walk : (g : Graph) (x : ℕ) (ss : List Step) → AreSteps g x ss → IsWebWalk g x (edges_of ss) (end_of x ss)
trail_walk g x [] t = refl
trail_walk g x (s ∷ ss) t = (s.to, t.0, trail_walk g s.to ss t.1)

-- an edge stands as often in the steps as among their edges
pub times_stands : (e : ℕ) (ss : List Step) → count_by (λ k. eqb k e) (edges_of ss) ≡ uses_of e ss
times_stands e [] = refl
times_stands e (s ∷ ss) =
    sum_by-cons (λ k. cond {A = ℕ} (eqb k e) 1 0) s.edge (edges_of ss) ∙ ap (λ n. cond {A = ℕ} (eqb s.edge e) 1 0 + n) (times_stands e ss)
    ∙ sym (sum_by-cons (λ (r : Step). cond {A = ℕ} (r.edge == e) 1 0) s ss)
