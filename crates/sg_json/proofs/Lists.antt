-- Lists of a JSON text, as the code sees them and as data.
use Rattle.std.proofs.Common.{◌≡◌, ℕ, ◌+◌, ◌<◌, Bool, true, false, List, [], ◌∷◌, length, map, get_or, Some, None, refl, sym, ap, ◌∙◌, arith, All, cond}
use Rattle.std.specs.Prelude.{is_some, nat_lt, not, position}
use Rattle.std.specs.List.{position_or_len, prefix_len}
use Rattle.std.proofs.lemmas.Bool.{and_parts, ltb-false, ltb-true, not-false}
use Rattle.std.proofs.lemmas.Option.{none-some}
use Rattle.std.proofs.lemmas.List.{length-map}
use Rattle.std.proofs.lemmas.List.Elements.{All-from_get_or, All-map}
use Rattle.std.proofs.lemmas.List.Sums.{fails_before_first}
use Rattle.serde_json.specs.Data.{Data, null}
use Rattle.serde_json.specs.View.{items_view, view}
use Rattle.serde_json.specs.declared.value.Value.{Value}
use Rattle.sg_draft.specs.Bonds.{IsAmong, IsCoupling, is_among, is_coupling}
use Rattle.sg_draft.proofs.Drafts.{among-of}
use Rattle.sg_json.specs.declared.entry.Entry.{Entry}
use Rattle.sg_json.specs.declared.entry.Entry.TheVariants as entry
use Rattle.sg_json.specs.Members.{is_entry, value_index, value_indices, is_triple, item_at, items_in, item_list, first_wrong, value_bond, value_number, whole_number}

-- the items of an array are those that the code has
pub listed_view : (vs : List Value) → item_list (items_view vs) ≡ map view vs
listed_view [] = refl
listed_view (v ∷ vs) = ap (λ (ds : List Data). view v ∷ ds) (listed_view vs)

-- maps of maps
pub mapped : {X Y Z : Type 0} (f : Y → Z) (g : X → Y) (xs : List X) → map f (map g xs) ≡ map (λ x. f (g x)) xs
mapped f g [] = refl
mapped {X} {Y} {Z} f g (x ∷ xs) = ap (λ (l : List Z). f (g x) ∷ l) (mapped f g xs)

-- the indices of a list, read one by one
pub index-map : (vs : List Value) (d : Data) → map view vs ≡ items_in d → map (λ v. value_index (view v)) vs ≡ value_indices d
index-map vs d h = sym (mapped value_index view vs) ∙ ap (map value_index) h

-- the first place of a list that is read from another
prefix-map : {X Y : Type 0} (p : Y → Bool) (f : X → Y) (xs : List X) → prefix_len p (map f xs) ≡ prefix_len (λ x. p (f x)) xs
prefix-map p f [] = refl
prefix-map p f (x ∷ xs) = ap (λ (n : ℕ). cond (p (f x)) (1 + n) 0) (prefix-map p f xs)

-- the misfit as the code finds it
pub misfit_view : (what : Entry) (vs : List Value) → first_wrong what (map view vs) ≡ position (λ v. not (is_entry what (view v))) vs
misfit_view what vs =
    let first = prefix-map (λ d. not (not (is_entry what d))) view vs in
    λ i. cond (nat_lt (first i) (length-map vs view i)) (Some (first i)) None

-- what is found nowhere fails everywhere
nowhere : {X : Type 0} (p : X → Bool) (xs : List X) (i : ℕ) (d : X) → position p xs ≡ None → i < length xs → p (get_or xs i d) ≡ false
nowhere p xs i d none inside = by (nat_lt (position_or_len p xs) (length xs)) refl none
  where
    by : (b : Bool) → nat_lt (position_or_len p xs) (length xs) ≡ b → cond b (Some (position_or_len p xs)) None ≡ None → p (get_or xs i d) ≡ false
    by true e h = absurd (none-some (position_or_len p xs) (sym h))
    by false e h = let past = ltb-false (position_or_len p xs) (length xs) e in fails_before_first p xs i d (omega (arith, past, inside))

-- where there is no misfit each item is what its list wants
fit-all : (P : Data → Type 0) (what : Entry) (ds : List Data) → ((d : Data) → is_entry what d ≡ true → P d) → first_wrong what ds ≡ None → All P ds
fit-all P what ds each none = All-from_get_or P ds null (λ i inside.
    each (item_at ds i) (not-false _ (nowhere (λ d. not (is_entry what d)) ds i null none inside)))

-- the numbers of a list of couplings are couplings
pub couplings-fit : (ds : List Data) → first_wrong entry.Coupling ds ≡ None → All IsCoupling (map value_number ds)
couplings-fit ds none = All-map IsCoupling value_number ds (fit-all (λ d. IsCoupling (value_number d)) entry.Coupling ds
    (λ d pass. ltb-true _ _ (and_parts (is_some (whole_number d)) (is_coupling (value_number d)) pass).1) none)

-- the bonds of a list of bonds are among the spins
pub bonds-fit : (n : ℕ) (ds : List Data) → first_wrong (entry.Bond n) ds ≡ None → All (IsAmong n) (map value_bond ds)
bonds-fit n ds none = All-map (IsAmong n) value_bond ds (fit-all (λ d. IsAmong n (value_bond d)) (entry.Bond n) ds
    (λ d pass. among-of n (value_bond d) (and_parts (is_triple (items_in d)) (is_among n (value_bond d)) pass).1) none)
