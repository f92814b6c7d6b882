-- Tables of the terminals, one after another.
use Rattle.std.proofs.Common.{inl, inr, ◌≡◌, ℕ, ◌+◌, ◌<◌, List, [], ◌∷◌, ◌++◌, ◌∙◌, sym, ap, arith, All, length, get_or}
use Rattle.std.proofs.lemmas.Bool.{cases_eq}
use Rattle.std.proofs.lemmas.List.{length_push}
use Rattle.std.proofs.Math.ListN.{get_or-append}
use Rattle.std.proofs.Math.Seq.{get_or-append_seam}
use Rattle.std.proofs.lemmas.List.Elements.{All-push}
use Rattle.sg_graph.specs.Web.{Graph}
use Rattle.sg_graph.specs.Table.{IsTableOf, Routes}
use Rattle.sg_moat.specs.Input.{blank_table, table_at}

-- a table for each of the first few terminals
pub record AreFirstTables (g : Graph) (terminals : List ℕ) (upto : ℕ) (tables : List Routes) : Type 0 where
  pub count : length tables ≡ upto
  pub each : All (IsTableOf g) tables
  pub sources : (i : ℕ) → i < upto → (table_at tables i).source ≡ get_or terminals i 0

module _ (g : Graph) (terminals : List ℕ) (upto : ℕ) (tables : List Routes) (s : AreFirstTables g terminals upto tables) where
  -- one table more, of the next terminal
  pub AreFirstTables-more : (t : Routes) → IsTableOf g t → t.source ≡ get_or terminals upto 0 → AreFirstTables g terminals (upto + 1) (tables ++ t ∷ [])
  AreFirstTables-more t is source = record {
    count = omega (arith, s.count, length_push tables t);
    each = All-push (IsTableOf g) tables t s.each is;
    sources = λ i l. elim (cases_eq i upto) [
      | inl same ↦
          let at : table_at (tables ++ t ∷ []) i ≡ t = ap (table_at (tables ++ t ∷ [])) (same ∙ sym s.count) ∙ get_or-append_seam tables t [] blank_table in
          ap (λ (u : Routes). u.source) at ∙ source ∙ ap (λ z. get_or terminals z 0) (sym same)
      | inr differs ↦ ap (λ (u : Routes). u.source) (get_or-append tables (t ∷ []) blank_table i (omega (arith, s.count))) ∙ s.sources i (omega arith)
    ];
  }
