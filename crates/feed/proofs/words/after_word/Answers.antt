use mathlib.Core.Path.{sym, ap, ◌∙◌}
use Rattle.feed.specs.declared.state.WordField.{WordField}
use Rattle.feed.specs.Steps.Next.{after_word}
use Rattle.feed.proofs.words.after_word.Goals as goal

pub returns-in-Start : goal.returns-in-Start
returns-in-Start c = c.after_start.ensures ∙ ap (λ (f : WordField). after_word f c.args.place c.args.w) (sym c.in-Start.is)

pub returns-in-FileCount : goal.returns-in-FileCount
returns-in-FileCount c = c.after_file_count.ensures ∙ ap (λ (f : WordField). after_word f c.args.place c.args.w) (sym c.in-FileCount.is)

pub returns-in-Flags : goal.returns-in-Flags
returns-in-Flags c = c.after_flags.ensures ∙ ap (λ (f : WordField). after_word f c.args.place c.args.w) (sym c.in-Flags.is)

pub returns-in-BlockCount : goal.returns-in-BlockCount
returns-in-BlockCount c = c.after_block_count.ensures ∙ ap (λ (f : WordField). after_word f c.args.place c.args.w) (sym c.in-BlockCount.is)

pub returns-in-Block : goal.returns-in-Block
returns-in-Block c = c.after_size.ensures ∙ ap (λ (f : WordField). after_word f c.args.place c.args.w) (sym c.in-Block.is)

pub returns-in-HashLength : goal.returns-in-HashLength
returns-in-HashLength c = c.after_hash_length.ensures ∙ ap (λ (f : WordField). after_word f c.args.place c.args.w) (sym c.in-HashLength.is)

pub returns-in-OptionCount : goal.returns-in-OptionCount
returns-in-OptionCount c = c.after_option_count.ensures ∙ ap (λ (f : WordField). after_word f c.args.place c.args.w) (sym c.in-OptionCount.is)
