-- The compact text of a report's value is the report's text, and the value has no float.
use Rattle.std.proofs.Common.{◌≡◌, sym, ap, refl, ℕ, ℤ, pos, negsuc, List, [], ◌∷◌, ◌++◌, map, codes, decimal, Option, Some, None, true, false, append_assoc}
use Rattle.std.specs.Fmt.{signed_decimal}
use Rattle.serde_json.specs.Data.{Data}
use Rattle.serde_json.specs.Find.{of_integer}
use Rattle.serde_json.specs.View.{items_of}
use Rattle.serde_json.specs.Written.{compact_text, items_text, number_text, has_float, items_have_float}
use Rattle.serde_json.proofs.OnLiterals.{serde_json_on_literals}
use Rattle.sg_check.specs.declared.packing.Loop.{Loop}
use Rattle.sg_report.specs.Text.{listed_int}
use Rattle.sg_report.specs.Report.{comma_items, list_text, loop_text, report_object, wall_object}
use Rattle.sg_report.specs.ReportValue.{list_value, loop_value, name_value, report_value, wall_value, whole_value}

number_is : (z : ℤ) → number_text (of_integer z) ≡ signed_decimal z
number_is (pos n) = refl
number_is (negsuc n) = refl

-- lists, by their items
module _ {X : Type 0} (value : X → Data) (text : X → List ℕ) (is : (x : X) → compact_text (value x) ≡ text x) where
  further_is : (xs : List X) → items_text true (items_of (map value xs)) ≡ comma_items text xs ++ codes "]"
  further_is [] = refl
  further_is (x ∷ xs) = ap (λ (s : List ℕ). 44 ∷ s) (rw (is x, further_is xs) (sym (append_assoc (text x) (comma_items text xs) (codes "]"))))

  -- the compact text of a list is the texts of its entries between commas and brackets
  pub list_is : (xs : List X) → compact_text (list_value value xs) ≡ list_text text xs
  list_is [] = refl
  list_is (x ∷ xs) = ap (λ (s : List ℕ). 91 ∷ s) (rw (is x, further_is xs) (sym (append_assoc (text x) (comma_items text xs) (codes "]"))))

module _ {X : Type 0} (value : X → Data) (plain : (x : X) → has_float (value x) ≡ false) where
  -- a list of values without floats has none
  pub plain_list : (xs : List X) → items_have_float (items_of (map value xs)) ≡ false
  plain_list [] = refl
  plain_list (x ∷ xs) = rw (plain x) (plain_list xs)

whole_is : (z : ℤ) → compact_text (whole_value z) ≡ signed_decimal z
whole_is z = number_is z

name_is : (n : ℕ) → compact_text (name_value n) ≡ decimal n
name_is n = refl

loop_is : (l : Loop) → compact_text (loop_value l) ≡ loop_text l
unfolding serde_json_on_literals
loop_is l =
    let bonds = list_is name_value decimal name_is l.bonds in
    rw (number_is l.y) (simp append_assoc (rw (← bonds) refl))

wall_is : (w : Option (List ℤ)) → compact_text (wall_value w) ≡ wall_object w
unfolding serde_json_on_literals
wall_is None = refl
wall_is (Some w) = rw (number_is (listed_int w 0), number_is (listed_int w 1), number_is (listed_int w 2)) (simp append_assoc refl)

-- the compact text of a report's value is the text of the report
pub report_is : (bonds : ℕ) (total energy : ℤ) (spins : List ℤ) (loops : List Loop) (costs : List ℤ) (clusters : List ℕ) (wall : Option (List ℤ))
    → compact_text (report_value bonds total energy spins loops costs clusters wall) ≡ report_object bonds total energy spins loops costs clusters wall
unfolding serde_json_on_literals
report_is bonds total energy spins loops costs clusters wall =
    let a = list_is name_value decimal name_is clusters in
    let b = list_is whole_value signed_decimal whole_is costs in
    let c = list_is loop_value loop_text loop_is loops in
    let d = list_is whole_value signed_decimal whole_is spins in
    rw (number_is energy, number_is total, wall_is wall) (simp append_assoc (rw (← a, ← b, ← c, ← d) refl))

plain_whole : (z : ℤ) → has_float (whole_value z) ≡ false
plain_whole (pos n) = refl
plain_whole (negsuc n) = refl

plain_name : (n : ℕ) → has_float (name_value n) ≡ false
plain_name n = refl

plain_loop : (l : Loop) → has_float (loop_value l) ≡ false
plain_loop l = rw (plain_list name_value plain_name l.bonds, plain_whole l.y) refl

plain_wall : (w : Option (List ℤ)) → has_float (wall_value w) ≡ false
plain_wall None = refl
plain_wall (Some w) = rw (plain_whole (listed_int w 0), plain_whole (listed_int w 1), plain_whole (listed_int w 2)) refl

-- the value of a report has no float
pub plain_report : (bonds : ℕ) (total energy : ℤ) (spins : List ℤ) (loops : List Loop) (costs : List ℤ) (clusters : List ℕ) (wall : Option (List ℤ))
    → has_float (report_value bonds total energy spins loops costs clusters wall) ≡ false
plain_report bonds total energy spins loops costs clusters wall =
    rw (
      plain_list name_value plain_name clusters,
      plain_list whole_value plain_whole costs,
      plain_whole energy,
      plain_list loop_value plain_loop loops,
      plain_list whole_value plain_whole spins,
      plain_whole total,
      plain_wall wall,
    ) refl
