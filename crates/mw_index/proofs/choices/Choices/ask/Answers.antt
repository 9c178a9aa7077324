use Rattle.mw_index.proofs.Asking.{plain_one, searched_one}
use Rattle.mw_index.proofs.choices.Choices.ask.Goals as goal

pub compare-requires : goal.compare-requires
compare-requires c = plain_one c.args.context.now _ c.args.by.now c.requires _ c.in-Plain.is

pub seek-requires : goal.seek-requires
seek-requires c = searched_one c.args.context.now _ c.args.by.now c.requires c.deref.result.now c.in-Searched.searched c.in-Searched.is c.deref.ensures
