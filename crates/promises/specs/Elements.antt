-- Walking the arrays of a message that was read: its elements one after another, and then the end.
use Rattle.std.specs.Prelude.{Some, None}
use Rattle.std.specs.Prelude.{Ok}
use Rattle.std.specs.declared.result.Result.{Result}
use Rattle.xdr.specs.declared.answer.Refusal.{Refusal}
use Rattle.std.specs.Prelude.{ℕ, ◌+◌, List, [], ◌∷◌, ◌≡◌, length, take, drop}
use Rattle.record.specs.Block.{Block}
use Rattle.record.specs.File.{File}
use Rattle.record.specs.KeyValue.{KeyValue}
use Rattle.record.specs.Outline.{outline_of, block_of}
use Rattle.record.specs.OptionOutline.{option_of}
use Rattle.record.specs.declared.outline.RecordFields.{RecordFields}
use Rattle.record.specs.declared.option_outline.OptionFields.{OptionFields}
use Rattle.order.specs.Order.{part}
use Rattle.message.specs.Message.{Kind, is_index, is_request, is_response, is_ping, is_pong, is_index_update, is_options, Body}
use Rattle.message.specs.Answers.{span_bytes}
use Rattle.message.specs.declared.answer.IndexSpan.{IndexSpan}
use Rattle.message.specs.declared.answer.OptionsSpan.{OptionsSpan}
use Rattle.message.specs.declared.answer.Message.{Message}
use Rattle.message.specs.declared.answer.Message.TheVariants as M
use Rattle.message.specs.declared.edition.Edition.{Edition}

-- blocks by their numbers, from i on: Length and hash
abbrev pub BlocksFrom : (s : List ℕ) → (first i : ℕ) → List Block → Type 0
BlocksFrom s first i [] = Unit {0}
BlocksFrom s first i (b ∷ bs) = (hash : ℕ) × (block_of s first i ≡ Some (record { size = b.size; hash = hash })) × (take 32 (drop hash s) ≡ b.hash) × BlocksFrom s first (i + 1) bs

-- the fields at a place are a file's
pub record ShowsFile (s : List ℕ) (g : RecordFields) (f : File) : Type 0 where
  pub name : part s g.name g.stop ≡ f.name
  pub flags : g.flags ≡ f.flags
  pub modified : g.modified ≡ f.modified
  pub version : g.version ≡ f.version
  pub count : g.blocks ≡ length f.blocks
  pub blocks : BlocksFrom s g.first 0 f.blocks

-- from a place on the files, each at the place past the one before, and then the end
abbrev pub FilesFrom : (s : List ℕ) → (at : ℕ) → List File → Type 0
FilesFrom s at [] = (at ≡ length s) × (outline_of s at ≡ None)
FilesFrom s at (f ∷ fs) = (g : RecordFields) × (outline_of s at ≡ Some g) × ShowsFile s g f × FilesFrom s g.past fs

-- the fields at a place are an option's
pub record ShowsOption (s : List ℕ) (g : OptionFields) (o : KeyValue) : Type 0 where
  pub key : take g.key_length (drop g.key s) ≡ o.key
  pub value : take g.value_length (drop g.value s) ≡ o.value

-- options likewise
abbrev pub OptionsFrom : (s : List ℕ) → (at : ℕ) → List KeyValue → Type 0
OptionsFrom s at [] = (at ≡ length s) × (option_of s at ≡ None)
OptionsFrom s at (o ∷ os) = (g : OptionFields) × (option_of s at ≡ Some g) × ShowsOption s g o × OptionsFrom s g.past os

-- walking the array of a message gives what was read; its first element is at 4, behind the count; the other kinds have no array
abbrev pub Walked : (ed : Edition) (s : List ℕ) (k : Kind) → Body ed k → Result Message Refusal → Type 0
Walked ed s is_index b a = (id : ℕ) × (x : IndexSpan) × (a ≡ Ok (M.Index id x)) × FilesFrom (span_bytes s x.files) 4 b.1
Walked ed s is_request b a = Unit {0}
Walked ed s is_response b a = Unit {0}
Walked ed s is_ping b a = Unit {0}
Walked ed s is_pong b a = Unit {0}
Walked ed s is_index_update b a = (id : ℕ) × (x : IndexSpan) × (a ≡ Ok (M.IndexUpdate id x)) × FilesFrom (span_bytes s x.files) 4 b.1
Walked ed s is_options b a = (id : ℕ) × (x : OptionsSpan) × (a ≡ Ok (M.Options id x)) × OptionsFrom (span_bytes s x.options) 4 b
