-- What is read is UTF-8 and leads down: every string and every Name of a message that was read, and every name of a good table.
use Prim.Native.Nat.{ℕ}
use mathlib.Core.List.{List, [], ◌∷◌}
use mathlib.Core.Path.{◌≡◌}
use mathlib.Core.Bool.{true}
use Rattle.xdr.specs.Reading.{taken}
use Rattle.xdr.specs.Number.{IsBytes}
use Rattle.xdr.specs.Format.{AllOf, read, Valid}
use Rattle.xdr.specs.Fields.{text}
use Rattle.xdr.specs.Utf8.{IsUtf8}
use Rattle.xdr.proofs.Corollaries.{read_exactly}
use Rattle.xdr.proofs.Utf8Laws.{text_is_utf8}
use Rattle.record.specs.Limits.{key_limit, value_limit}
use Rattle.record.specs.File.{File, name, file}
use Rattle.record.specs.KeyValue.{KeyValue, key_value}
use Rattle.record.proofs.NameLaws.{path_faultless, path_stays_below}
use Rattle.message.specs.Limits.{repository_limit}
use Rattle.message.specs.Header.{type_of}
use Rattle.message.specs.Message.{Repository, repository, Kind, is_index, is_request, is_response, is_ping, is_pong, is_index_update, is_options, kind_of, Body, body, MessageValue, message}
use Rattle.message.specs.declared.edition.Edition.{Edition}
use Rattle.message.specs.declared.edition.Edition.TheVariants as E
use Rattle.table.specs.Table.{is_good, records}
use Rattle.table.proofs.TableLaws.{good_table}
use Rattle.promises.specs.Strings.{RepositoryHas, NamesHave, StringsHave, LeadsDown, NamesAreUtf8, StringsAreUtf8, NamesLeadDown}

-- what every text has, and every name
module _ (P Q : List ℕ → Type 0) (texts : (limit : ℕ) (l : List ℕ) → Valid (text limit) l → P l) (named : (l : List ℕ) → Valid name l → Q l) where
  names : (fs : List File) → AllOf (λ f. Valid file f) fs → NamesHave Q fs
  unfolding Valid
  names [] v = tt
  names (f ∷ fs) v = (named f.name v.0.0, names fs v.1)

  options : (os : List KeyValue) → AllOf (λ o. Valid key_value o) os → AllOf (λ o. P o.key × P o.value) os
  unfolding Valid
  options [] v = tt
  options (o ∷ os) v = ((texts key_limit o.key v.0.0, texts value_limit o.value v.0.1), options os v.1)

  repository_has : (ed : Edition) (r : Repository ed) → Valid (repository ed) r → RepositoryHas P ed r
  repository_has E.Old r v = tt
  repository_has E.New r v = texts repository_limit r v

  by_kind : (ed : Edition) (k : Kind) (b : Body ed k) → Valid (body ed k) b → StringsHave P Q ed k b
  unfolding Valid
  by_kind ed is_index b v = (repository_has ed b.0 v.0, names b.1 v.1.1)
  by_kind ed is_request b v = (repository_has ed b.repository v.0, named b.name v.1.0)
  by_kind ed is_response b v = tt
  by_kind ed is_ping b v = tt
  by_kind ed is_pong b v = tt
  by_kind ed is_index_update b v = (repository_has ed b.0 v.0, names b.1 v.1.1)
  by_kind ed is_options b v = options b v.1

  of_message : (ed : Edition) (s : List ℕ) → IsBytes s → (m : MessageValue ed) (n : ℕ) → read (message ed) s ≡ taken m n → StringsHave P Q ed (kind_of (type_of m.0)) m.1
  unfolding Valid
  of_message ed s b m n e = by_kind ed (kind_of (type_of m.0)) m.1 (read_exactly (message ed) s m n b e).1.1

  of_table : (t : List ℕ) → IsBytes t → is_good t ≡ true → NamesHave Q (records t)
  of_table t b e = names (records t) (good_table t b e).valid

-- the text rule is UTF-8, and a name is text
text_utf8 : (limit : ℕ) (l : List ℕ) → Valid (text limit) l → IsUtf8 l
unfolding Valid
text_utf8 limit l v = text_is_utf8 l v.1

name_utf8 : (l : List ℕ) → Valid name l → IsUtf8 l
unfolding Valid
name_utf8 l v = text_is_utf8 l v.0.0.1

pub read_strings : (ed : Edition) (s : List ℕ) → IsBytes s → (m : MessageValue ed) (n : ℕ) → read (message ed) s ≡ taken m n → StringsAreUtf8 ed (kind_of (type_of m.0)) m.1
read_strings = of_message IsUtf8 IsUtf8 text_utf8 name_utf8

pub good_names : (t : List ℕ) → IsBytes t → is_good t ≡ true → NamesAreUtf8 (records t)
good_names = of_table IsUtf8 IsUtf8 text_utf8 name_utf8

-- a name is a path
name_leads_down : (l : List ℕ) → Valid name l → LeadsDown l
unfolding Valid
name_leads_down l v = record { faultless = (path_faultless l v.1).1; stays_below = path_stays_below l v.1 }

pub read_names_lead_down : (ed : Edition) (s : List ℕ) → IsBytes s → (m : MessageValue ed) (n : ℕ) → read (message ed) s ≡ taken m n → NamesLeadDown ed (kind_of (type_of m.0)) m.1
read_names_lead_down = of_message (λ l. Unit {0}) LeadsDown (λ limit l v. tt) name_leads_down

pub good_names_lead_down : (t : List ℕ) → IsBytes t → is_good t ≡ true → NamesHave LeadsDown (records t)
good_names_lead_down = of_table (λ l. Unit {0}) LeadsDown (λ limit l v. tt) name_leads_down
