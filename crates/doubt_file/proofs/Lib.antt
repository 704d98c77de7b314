mod Closed
mod Found
mod Next
mod Results
