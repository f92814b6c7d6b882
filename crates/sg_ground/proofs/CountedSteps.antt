-- The steps of parts, one after another, and of the whole.
use Rattle.std.proofs.Common.{inl, inr, ◌≡◌, ℕ, ◌+◌, ◌<◌, ◌≤◌, List, length, take, get_or, ap, arith, subst, Result, Ok, Err, IfOk, take_all}
use Rattle.std.proofs.lemmas.List.Sums.{sum_by_more}
use Rattle.sg_model.specs.Connected.{IsConnected}
use Rattle.sg_planar.specs.Fit.{Embedding}
use Rattle.sg_planar.specs.Parts.{AreParts}
use Rattle.sg_planar.specs.declared.components.Part.{Part}
use Rattle.sg_graph.specs.Web.{Graph}
use Rattle.sg_dual.specs.Dual.{dual_web, frustrated_faces}
use Rattle.sg_regions.specs.Places.{place_count}
use Rattle.sg_regions.specs.Steps.{RegionSteps, TakesRuns}
use Rattle.sg_regions.proofs.Runs.{takes_both, takes_more}
use Rattle.sg_tjoin.specs.Counted.{step_limit, steps_of}
use Rattle.sg_tjoin.specs.declared.counted.Taken.{Taken}
use Rattle.sg_ground.specs.Counted.{AddsSteps, all_steps, dual_places, frustrated_count, join_steps, nest_steps}

-- one part more
pub steps_more : (parts : List Part) (i : ℕ) (p : Part) → i < length parts → p ≡ get_or parts i p → (old mid new : ℕ) →
    mid ≤ old + all_steps (take i parts) → new ≤ mid + join_steps p.planar → new ≤ old + all_steps (take (i + 1) parts)
steps_more parts i p l same old mid new before own =
    omega (
      arith,
      before,
      own,
      sum_by_more (λ (part : Part). join_steps part.planar) parts i p l,
      ap (λ (part : Part). join_steps part.planar) same,
    )

-- all parts
pub steps_all : (parts : List Part) (i : ℕ) → length parts ≤ i → (old new : ℕ) → new ≤ old + all_steps (take i parts) →
    new ≤ old + all_steps parts
steps_all parts i all old new within = omega (arith, within, ap all_steps (take_all i parts all))

-- and with a nest over all components
pub adds_nest : (p : Embedding) (old mid new : Taken) → AddsSteps 0 p (steps_of old) (steps_of mid) →
    TakesRuns 4 (frustrated_count p) (dual_places p) mid.regions new.regions → new.matching.steps ≡ mid.matching.steps →
    AddsSteps (nest_steps p) p (steps_of old) (steps_of new)
adds_nest p old mid new (inl (connected, within)) takes same = inl (connected, omega (arith, within, takes.blossoms, takes.events, same))
adds_nest p old mid new (inr (parts, are, within)) takes same = inr (parts, are, omega (arith, within, takes.blossoms, takes.events, same))

-- by its dual and the frustrated faces, if there is an answer
pub any_dual : {J E : Type 0} (r : Result J E) (p : Embedding) (web : Graph) (terminals : List ℕ) (old new : ℕ) →
    web ≡ dual_web p.instance p.faces → terminals ≡ frustrated_faces p.instance p.faces →
    IfOk r (λ _. new ≤ old + step_limit (length terminals) (place_count web)) → IfOk r (λ _. new ≤ old + join_steps p)
any_dual (Ok j) p web terminals old new dual frustrated within =
    omega (
      arith,
      within,
      ap (λ ts. step_limit (length ts) (place_count web)) frustrated,
      ap (λ g. step_limit (frustrated_count p) (place_count g)) dual,
    )
any_dual (Err e) p web terminals old new dual frustrated within = tt

-- of an instance that is connected, and of one with parts
pub any_whole : {J E : Type 0} (r : Result J E) (more : ℕ) (p : Embedding) (old new : ℕ) → IsConnected p.instance →
    IfOk r (λ _. new ≤ old + join_steps p) → IfOk r (λ _. AddsSteps more p old new)
any_whole (Ok j) more p old new connected within = inl (connected, omega (arith, within))
any_whole (Err e) more p old new connected within = tt

pub any_parts : {J E : Type 0} (r : Result J E) (p : Embedding) (parts : List Part) (old new : ℕ) → AreParts p.instance parts →
    IfOk r (λ _. new ≤ old + all_steps parts) → IfOk r (λ _. AddsSteps 0 p old new)
any_parts (Ok j) p parts old new are within = inr (parts, are, omega (arith, within))
any_parts (Err e) p parts old new are within = tt

-- runs of growing regions on the dual of all components, by the dual and the frustrated faces
dual_runs : (p : Embedding) (web : Graph) (terminals : List ℕ) (m : ℕ) (old new : RegionSteps) → web ≡ dual_web p.instance p.faces →
    terminals ≡ frustrated_faces p.instance p.faces → TakesRuns m (length terminals) (place_count web) old new →
    TakesRuns m (frustrated_count p) (dual_places p) old new
dual_runs p web terminals m old new dual frustrated takes =
    subst (λ ts. TakesRuns m (length ts) (dual_places p) old new) frustrated
    (subst (λ (g : Graph). TakesRuns m (length terminals) (place_count g) old new) dual takes)

pub first_runs : (p : Embedding) (web : Graph) (terminals : List ℕ) (old new : RegionSteps) → web ≡ dual_web p.instance p.faces →
    terminals ≡ frustrated_faces p.instance p.faces → TakesRuns 3 (length terminals) (place_count web) old new →
    TakesRuns 4 (frustrated_count p) (dual_places p) old new
first_runs p web terminals old new dual frustrated takes =
    dual_runs p web terminals 4 old new dual frustrated (takes_more 3 4 (length terminals) (place_count web) old new (omega arith) takes)

pub both_runs : (p : Embedding) (web : Graph) (terminals : List ℕ) (old mid new : RegionSteps) → web ≡ dual_web p.instance p.faces →
    terminals ≡ frustrated_faces p.instance p.faces → TakesRuns 3 (length terminals) (place_count web) old mid →
    TakesRuns 1 (length terminals) (place_count web) mid new → TakesRuns 4 (frustrated_count p) (dual_places p) old new
both_runs p web terminals old mid new dual frustrated first second =
    dual_runs p web terminals 4 old new dual frustrated (takes_both 3 1 (length terminals) (place_count web) old mid new first second)
