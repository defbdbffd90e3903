-- `utils::trim_xml_spaces` trims the end of what `trim_xml_start` leaves. Assumes nothing.
use Rattle.utils.proofs.Trim.{start_fits, spaces_at}
use Rattle.utils.proofs.trim_xml_spaces.Goals as goal

pub slice_bounds-trim_xml_end-count : goal.slice_bounds-trim_xml_end-count
slice_bounds-trim_xml_end-count c = start_fits _ _ c.trim_xml_start-first.ensures

pub slice_bounds-trim_xml_end-start : goal.slice_bounds-trim_xml_end-start
slice_bounds-trim_xml_end-start c = start_fits _ _ c.trim_xml_start-first.ensures

pub returns : goal.returns
returns c =
    spaces_at c.args.text.now c.trim_xml_start-first.result c.trim_xml_end-last.result c.trim_xml_start-first.ensures c.trim_xml_end-last.ensures
