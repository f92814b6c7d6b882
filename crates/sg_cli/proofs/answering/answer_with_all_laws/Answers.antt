use Rattle.std.proofs.Common.{refl, List, ℕ, ℤ, inl, inr, map, string_bytes}
use denote.Param.Object.{read_made}
use Rattle.sg_laws.specs.declared.disorder.Disorder as disorder
use Rattle.sg_cli.proofs.LawLemmas.{four-laws}
use Rattle.sg_cli.proofs.Replies.{served-with_laws}
use Rattle.sg_cli.proofs.answering.answer_with_all_laws.OwnLists.{own-1}
use Rattle.sg_cli.proofs.answering.answer_with_all_laws.Goals as goal

pub returns-clause-served : goal.returns-clause-served
returns-clause-served c =
    served-with_laws (map string_bytes c.args.words.now) _ c.args.bytes.now c.answer.result
    (four-laws _ c.new-laws.result.items c.push.new.self.items c.push-2.new.self.items c.push-3.new.self.items c.push-4.new.self.items
    c.into_dyn_box.result c.into_dyn_box-in_ok-new-2.result c.into_dyn_box-in_ok-new-3.result c.into_dyn_box-in_ok-new-4.result
    c.new-laws.ensures.items c.in_ok-push.ensures.items c.in_ok-push-2.ensures.items c.in_ok-push-3.ensures.items
    c.in_ok-push-4.ensures.items
    (record {
      named = read_made {G = disorder.Ghosts} own-1 _ (inl tt) refl (List ℕ) (λ law x. law.1.title x) _ _ _ c.into_dyn_box.ensures.1;
      drawn = λ seed count. read_made {G = disorder.Ghosts} own-1 _ (inl tt) refl (List ℤ)
          (λ law x. law.1.seeded x seed count) _ _ _ c.into_dyn_box.ensures.1;
    })
    (record {
      named = read_made {G = disorder.Ghosts} own-1 _ (inr (inl tt)) refl (List ℕ) (λ law x. law.1.title x) _ _ _ c.into_dyn_box-in_ok-new-2.ensures.1;
      drawn = λ seed count. read_made {G = disorder.Ghosts} own-1 _ (inr (inl tt)) refl (List ℤ)
          (λ law x. law.1.seeded x seed count) _ _ _ c.into_dyn_box-in_ok-new-2.ensures.1;
    })
    (record {
      named = read_made {G = disorder.Ghosts} own-1 _ (inr (inr (inl tt))) refl (List ℕ) (λ law x. law.1.title x) _ _ _ c.into_dyn_box-in_ok-new-3.ensures.1;
      drawn = λ seed count. read_made {G = disorder.Ghosts} own-1 _ (inr (inr (inl tt))) refl (List ℤ) (λ law x. law.1.seeded x seed count) _ _ _
          c.into_dyn_box-in_ok-new-3.ensures.1;
    })
    (record {
      named = read_made {G = disorder.Ghosts} own-1 _ (inr (inr (inr (inl tt)))) refl (List ℕ) (λ law x. law.1.title x) _ _ _
          c.into_dyn_box-in_ok-new-4.ensures.1;
      drawn = λ seed count. read_made {G = disorder.Ghosts} own-1 _ (inr (inr (inr (inl tt)))) refl (List ℤ)
          (λ law x. law.1.seeded x seed count) _ _ _ c.into_dyn_box-in_ok-new-4.ensures.1;
    }))
    c.answer.ensures.served
