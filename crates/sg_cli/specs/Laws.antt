-- The laws that the program draws from.
use Rattle.std.specs.Prelude.{◌≡◌, ℕ, ℤ, pos, Option, List, [], ◌∷◌, codes, replicate}
use Rattle.sg_laws.specs.Named.{Law}
use Rattle.sg_laws.specs.Stream.{alternating, drawn, seeded_generator, level_of, sign_of}
use Rattle.sg_report.specs.Exit.{IsReply}
use Rattle.sg_cli.specs.Promises.{AnswersInPart, AnswersWhole}
use Rattle.sg_report.specs.declared.status.Status.{Status}
use Rattle.sg_report.specs.declared.status.Status.TheVariants.{WriteFault}

-- the law of this name with these draws after each seed
pub record IsLaw (title : List ℕ) (stream : ℕ → ℕ → List ℤ) (law : Law) : Type 0 where
  pub named : law.title ≡ title
  pub drawn : (seed count : ℕ) → law.stream seed count ≡ stream seed count

-- the four laws, in this order: one, alternate, pm and uniform
pub record AreLaws (laws : List Law) : Type 0 where
  pub one : Law
  pub alternate : Law
  pub plus_minus : Law
  pub uniform : Law
  pub all : laws ≡ one ∷ alternate ∷ plus_minus ∷ uniform ∷ []
  pub is_one : IsLaw (codes "one") (λ seed count. replicate count (pos 1)) one
  pub is_alternate : IsLaw (codes "alternate") alternating alternate
  pub is_plus_minus : IsLaw (codes "pm") (λ seed count. drawn sign_of count (seeded_generator seed)) plus_minus
  pub is_uniform : IsLaw (codes "uniform") (λ seed count. drawn level_of count (seeded_generator seed)) uniform

-- what the sink has got of a run among these laws: the whole answer, or a part of one after a write fault
pub record Sends (words : List (List ℕ)) (laws : List Law) (status : Status)
    (left before after : Option (List ℕ)) : Type 0 where
  pub whole : IsReply status → AnswersWhole words laws status left before after
  pub in_part : status ≡ WriteFault → AnswersInPart words laws left before after

-- this holds of the four laws
pub record WithAllLaws (Holds : List Law → Type 0) : Type 0 where
  pub laws : List Law
  pub known : AreLaws laws
  pub holds : Holds laws
