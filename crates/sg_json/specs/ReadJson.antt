-- Which instance a JSON text gives, or why it is refused: the first test that fails.
use Rattle.std.specs.Prelude.{◌≡◌, ℕ, ◌<◌, ◌≤◌, true, false, List, length, Some, None, IsUtf8}
use Rattle.std.specs.List.{list_all}
use Rattle.serde_json.specs.Data.{Data}
use Rattle.serde_json.specs.Read.{read}
use Rattle.sg_model.specs.declared.refusal.Refusal.{Refusal}
use Rattle.sg_model.specs.declared.refusal.Refusal.TheVariants.{BadJson, JsonTooLong}
use Rattle.sg_model.specs.Ising.{Ising}
use Rattle.sg_draft.specs.declared.member.Member.TheVariants as member
use Rattle.sg_draft.specs.Draft.{IsDraftRefusal, IsDrafted}
use Rattle.sg_draft.specs.Limits.{program_limits}
use Rattle.sg_draft.specs.Members.{bad_member}
use Rattle.sg_reader.specs.declared.header.Form.{Form}
use Rattle.sg_reader.specs.Field.{without_marks}
use Rattle.sg_json.specs.Members.{draft_of, form_in, is_known, names_in}
use Rattle.sg_base.specs.Limits.{json_limit}

-- the bytes after the byte-order marks are UTF-8, and `serde_json`'s own definition reads the data from them
pub record SaysData (bytes : List ℕ) (d : Data) : Type 0 where
  pub utf8 : IsUtf8 (without_marks bytes)
  pub reads : read (without_marks bytes) ≡ Some d

-- the data has a kind and no other names than those of this kind, and its draft gives the instance
pub record Gives (d : Data) (inst : Ising) : Type 0 where
  pub form : Form
  pub kind : form_in d ≡ Some form
  pub names : list_all (is_known form) (names_in d) ≡ true
  pub drafted : IsDrafted program_limits (draft_of form d) inst

-- the text gives the instance
pub record ReadsJson (bytes : List ℕ) (inst : Ising) : Type 0 where
  pub short : length bytes ≤ json_limit
  pub value : Data
  pub says : SaysData bytes value
  pub gives : Gives value inst

-- the data is refused, in this order: it has no kind, it has another name, or its draft is refused
pub data RefusesData (d : Data) (refusal : Refusal) : Type 0 where
  NoKind : form_in d ≡ None → refusal ≡ bad_member member.Kind → RefusesData d refusal
  OtherName : (form : Form) → form_in d ≡ Some form → list_all (is_known form) (names_in d) ≡ false
      → refusal ≡ bad_member member.Names → RefusesData d refusal
  OfDraft : (form : Form) → form_in d ≡ Some form → list_all (is_known form) (names_in d) ≡ true
      → IsDraftRefusal program_limits (draft_of form d) refusal → RefusesData d refusal

-- the text is refused: it is too long, it is no JSON, or its data is refused
pub data RefusesJson (bytes : List ℕ) (refusal : Refusal) : Type 0 where
  TooLong : json_limit < length bytes → refusal ≡ JsonTooLong json_limit → RefusesJson bytes refusal
  NoData : length bytes ≤ json_limit → (IsUtf8 (without_marks bytes) → read (without_marks bytes) ≡ None) →
      refusal ≡ BadJson → RefusesJson bytes refusal
  OfData : length bytes ≤ json_limit → (d : Data) → SaysData bytes d → RefusesData d refusal → RefusesJson bytes refusal
