-- The numbers as bytes, and all saved.
use Rattle.std.specs.Option.{option_copied}
use Rattle.xdr.proofs.FillingLaws.{fills_same}
use Rattle.settings.proofs.SavingLaws.{byte_given, word_given, numbers_saved}
use Rattle.settings.proofs.saving.save.Goals as goal

pub returns : goal.returns
returns c =
    fills_same c.args.out.now
    (numbers_saved c.args.window c.args.allowance (option_copied c.args.repository) (option_copied c.args.note) c.args.carried.now
    (byte_given c.args.window _ c.and.ensures c.byte-w.ensures) (word_given c.args.allowance _ c.and-2.ensures c.word-a.ensures))
    c.save_bytes.ensures
